-- the line is one more that belongs, or the first that does not
use Rattle.std.proofs.Common.{◌≡◌, ◌+◌, sym, ap, ◌∙◌, subst, arith, [], None, option_map, Result, Ok, Err, OnErr}
use Rattle.std.proofs.KnownBytes.{Appends-nil}
use Rattle.textio.specs.Fronts.{WritesFront}
use Rattle.textio.proofs.Failures.{both_mapped}
use Rattle.textio.proofs.Fronts.{front_more}
use Rattle.floorlog.specs.KeptText.{kept_line}
use Rattle.floorlog.specs.LastLine.{last_device_line}
use Rattle.recorded.specs.Following.{stray_seen}
use Rattle.replay.proofs.LinesPlayed.{line_prints, line_strays, line_leaves, stray_prints, stray_is, stray_leaves}
use Rattle.replay.proofs.playing.HistoryPlayerObserver.line.Goals as goal

on_err : {T E P : Type 0} (r : Result T E) → P → OnErr r P
on_err (Ok v) p = tt
on_err (Err e) p = p

pub returns-in-Ok-clause-ok : goal.returns-in-Ok-clause-ok
returns-in-Ok-clause-ok g c =
    let p = c.args.self.now in
    let l = kept_line c.args.line.now in
    let bare : p.stray ≡ None = grind arith in
    let none = ap (option_map stray_seen) bare in
    let next : c.in-Some.number ≡ p.lines + 1 = omega arith in
    let h = c.in-Ok.ensures in
    both_mapped _ _ c.map_err.ensures.variant c.print.ensures.whole c.print.ensures.whole
    (λ written w. record {
      text = _;
      written = written;
      then = line_prints p.lines p.log p.tested.device none l next h;
      leaves = λ ls last q. record {
        stray = q.stray ∙ sym (line_strays p.lines p.log p.tested.device none l next h ls);
        shows = q.shows
            ∙ ap last_device_line (sym (line_leaves p.lines p.log p.tested.device none l next h ls));
      };
      overflows = λ ls o. omega (arith, o, next);
    })

pub returns-in-Ok-clause-front : goal.returns-in-Ok-clause-front
returns-in-Ok-clause-front g c =
    let p = c.args.self.now in
    let bare : p.stray ≡ None = grind arith in
    let none = ap (option_map stray_seen) bare in
    let next : c.in-Some.number ≡ p.lines + 1 = omega arith in
    on_err c.map_err.result
    (λ ls. subst (WritesFront _ _)
    (sym (line_prints p.lines p.log p.tested.device none (kept_line c.args.line.now) next c.in-Ok.ensures ls))
    (front_more _ _ _ _ c.print.ensures.front))

pub returns-in-Err-clause-ok : goal.returns-in-Err-clause-ok
returns-in-Err-clause-ok g c =
    let p = c.args.self.now in
    let l = kept_line c.args.line.now in
    let bare : p.stray ≡ None = grind arith in
    let none = ap (option_map stray_seen) bare in
    let next : c.in-Some.number ≡ p.lines + 1 = omega arith in
    let h = c.in-Err.ensures in record {
      text = [];
      written = Appends-nil _;
      then = stray_prints p.lines p.log p.tested.device none l next h;
      leaves = λ ls last q. record {
        stray = q.stray ∙ stray_is p.lines p.log p.tested.device none l next h ls;
        shows = q.shows ∙ stray_leaves p.lines p.log p.tested.device none l next h ls;
      };
      overflows = λ ls o. omega (arith, o);
    }
