use Rattle.std.proofs.Common.{arith, sym, subst, ◌∙◌}
use Rattle.textio.specs.Fronts.{WritesText}
use Rattle.textio.proofs.Fronts.{writes_then, writes_fails}
use Rattle.watch.specs.States.{state_of}
use Rattle.burnt.specs.ChainTold.{chain_ended}
use Rattle.burnt.specs.ChainTelling.{stray_now}
use Rattle.burnt.proofs.TellingsTold.{told_none}
use Rattle.burnt.proofs.ChainBegun.{end_told, left_itself}
use Rattle.burnt.proofs.chained.ChainTellerObserver.end.Goals as goal

pub returns-in_err-tell_ended-clause-text : goal.returns-in_err-tell_ended-clause-text
returns-in_err-tell_ended-clause-text g c =
    let t = c.args.self.now in
    subst (WritesText _ _ _ _)
    (sym (end_told t ∙ told_none (chain_ended t.starts t.lines (stray_now t)) t.report (state_of t.watch)))
    (writes_fails _ (rw c.is_underway.ensures at c.in_err-tell_ended.ensures.text) c.from_residual.ensures)

pub returns-clause-text : goal.returns-clause-text
returns-clause-text g c =
    let t = c.args.self.now in
    subst (WritesText _ _ _ _)
    (sym (end_told t ∙ told_none (chain_ended t.starts t.lines (stray_now t)) t.report (state_of t.watch)))
    (writes_then (rw c.is_underway.ensures at c.in_ok-tell_ended.ensures.text)
    (rw (c.in_ok-tell_ended.ensures.report, c.is_underway.ensures) at c.tell_end.ensures))

pub returns-clause-left : goal.returns-clause-left
returns-clause-left g c = grind (arith, left_itself c.args.self.now)
