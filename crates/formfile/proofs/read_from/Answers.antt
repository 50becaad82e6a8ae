use Rattle.std.proofs.Common.{ap, ◌∙◌}
use Rattle.formfile.proofs.FormBegun.{begun_by_known}
use Rattle.formfile.proofs.read_from.Goals as goal

pub returns-clause-by_form : goal.returns-clause-by_form
returns-clause-by_form g c =
    begun_by_known _ _ _ _ _ c.loaded.result (ap (λ b. g.R.Read.remaining b.now) c.take.ensures.inner)
    c.take.ensures.limit c.new-bytes.ensures.items c.in_ok-read_to_end.ensures.bytes
    (λ form e. c.loaded.ensures.by_form form (c.deref.ensures.value ∙ e))
