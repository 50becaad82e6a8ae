use Rattle.std.proofs.Common.{ℕ, List, ◌++◌, ap, ◌∙◌, append_assoc, codes}
use Rattle.numbers.specs.Decimal.{digits}
use Rattle.recorded.proofs.stray.put_refusal.Goals as goal

pub returns : goal.returns
returns c =
    c.put_number.ensures
    ∙ ap (λ (l : List ℕ). l ++ digits c.args.number) c.put_text.ensures
    ∙ append_assoc c.args.out.now.items (codes "refused with ") (digits c.args.number)
