-- the line is played, and what ended with it told
use Rattle.std.proofs.Common.{map, ◌∙◌, ◌≡◌, ◌+◌, ap, arith, List, ◌∷◌, inl, inr}
use Rattle.textio.specs.Lines.{LogLine, texts_of}
use Rattle.textio.proofs.Failures.{both_mapped}
use Rattle.floorlog.specs.KeptText.{kept_text, kept_line}
use Rattle.watch.specs.Marking.{floor_event}
use Rattle.watch.specs.States.{state_of}
use Rattle.watch.specs.Watching.{Watching}
use Rattle.burnt.specs.Told.{totals_text}
use Rattle.burnt.proofs.FloorTold.{line_uncounted, line_cut, line_left, line_reported}
use Rattle.burnt.proofs.FloorTold.{line_more, line_unplayed, line_over, unplayed_then}
use Rattle.burnt.proofs.telling.TellerObserver.line.Goals as goal

pub returns-in_default-clause-err : goal.returns-in_default-clause-err
returns-in_default-clause-err g c = λ ls. inr (omega arith)

pub returns-in_default-play-clause-err : goal.returns-in_default-play-clause-err
returns-in_default-play-clause-err g c =
    let s = state_of c.args.self.now.watch in
    λ ls. inl (line_uncounted s (floor_event (kept_text c.args.line.now)) (map floor_event (texts_of ls))
    (c.play.ensures.uncounted c.in_default-play.is))

pub returns-clause-ok : goal.returns-clause-ok
returns-clause-ok g c =
    let t = c.args.self.now in
    let s = state_of t.watch in
    let e = floor_event (kept_text c.args.line.now) in
    let watched = c.in-Some-play.ensures.watched in
    let more : c.in-Some.number ≡ t.lines + 1 = omega arith in
    let line = kept_line c.args.line.now in
    both_mapped _ _ c.map_err.ensures.variant c.tell_ended.ensures.report c.tell_ended.ensures.text.whole
    (λ reported written. record {
      text = _;
      written = written;
      then = λ ls. line_more t line ls more watched
          (rw (more, c.text.ensures, c.in-Some-play.ensures.answer) at c.note.ensures.noted) reported;
      leaves = λ ls last h. (
        h.0,
        line_reported s e (map floor_event (texts_of ls)) watched t.report reported h.1,
        h.2 ∙ line_left s e (map floor_event (texts_of ls)) watched,
        line_unplayed t line ls more (ap (λ (x : Watching). x.device) watched.state)
            (rw (more, c.text.ensures, c.in-Some-play.ensures.answer) at c.note.ensures.noted) h.3,
        omega (arith, more, h.4),
      );
      overflows = λ ls h. line_over t line ls more watched h;
    })

pub returns-clause-front : goal.returns-clause-front
returns-clause-front g c =
    let t = c.args.self.now in
    let e = floor_event (kept_text c.args.line.now) in
    let cut = λ (ls : List LogLine). line_cut (state_of t.watch) e (map floor_event (texts_of ls))
    c.in-Some-play.ensures.watched t.report (totals_text t.starts (unplayed_then t (kept_line c.args.line.now ∷ ls)))
    c.tell_ended.ensures.text.front in
    grind (arith, cut)
