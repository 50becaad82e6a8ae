use Rattle.std.proofs.Common.{ap, sym, subst, ◌∙◌, codes, option_map}
use Rattle.textio.specs.Fronts.{WritesText}
use Rattle.textio.proofs.Fronts.{writes_then, writes_fails}
use Rattle.recorded.specs.Following.{stray_seen}
use Rattle.replay.specs.HistoryText.{stray_ending}
use Rattle.replay.proofs.playing.print_stray.Goals as goal

pub returns-in_err-put : goal.returns-in_err-put
returns-in_err-put g c =
    let text = rw (c.deref.ensures.0 ∙ c.put.ensures) at c.in_err-put.ensures in
    subst (WritesText _ _ _ _) (sym (ap (λ s. stray_ending (option_map stray_seen s)) c.in-Some.is))
    (writes_fails (codes "\n") text c.from_residual.ensures)

pub returns : goal.returns
returns g c =
    let text = rw (c.deref.ensures.0 ∙ c.put.ensures) at c.in_ok-put.ensures in
    subst (WritesText _ _ _ _) (sym (ap (λ s. stray_ending (option_map stray_seen s)) c.in-Some.is))
    (writes_then text c.put-3.ensures)
