use Rattle.std.proofs.Common.{sym, subst, ◌∙◌, option_map}
use Rattle.std.proofs.lemmas.Result.{on_ok_weaker}
use Rattle.textio.specs.Fronts.{WritesText}
use Rattle.textio.proofs.Fronts.{writes_then, writes_fails}
use Rattle.recorded.specs.Following.{stray_seen}
use Rattle.replay.proofs.LinesPlayed.{printed_none, stray_left_none, device_left_none}
use Rattle.replay.proofs.playing.HistoryPlayerObserver.end.Goals as goal

pub returns-in_err-put-clause-text : goal.returns-in_err-put-clause-text
returns-in_err-put-clause-text g c =
    let p = c.args.self.now in
    let text = rw (c.deref.ensures.0 ∙ c.put_last.ensures) at c.in_err-put.ensures in
    subst (WritesText _ _ _ _) (sym (printed_none p.lines p.log p.tested.device (option_map stray_seen p.stray)))
    (writes_fails _ text c.from_residual.ensures)

pub returns-clause-text : goal.returns-clause-text
returns-clause-text g c =
    let p = c.args.self.now in
    let text = rw (c.deref.ensures.0 ∙ c.put_last.ensures) at c.in_ok-put.ensures in
    subst (WritesText _ _ _ _) (sym (printed_none p.lines p.log p.tested.device (option_map stray_seen p.stray)))
    (writes_then text c.print_stray.ensures)

pub returns-clause-left : goal.returns-clause-left
returns-clause-left g c =
    let p = c.args.self.now in
    on_ok_weaker c.print_stray.result
    (λ h. record {
      stray = stray_left_none p.lines p.log p.tested.device (option_map stray_seen p.stray);
      shows = device_left_none p.lines p.log p.tested.device (option_map stray_seen p.stray);
    }) c.print_stray.ensures.whole
