-- the line is one more that came
use Rattle.std.proofs.Common.{refl, sym, subst, map, ◌∙◌, ◌≡◌, ◌+◌, rules}
use Rattle.textio.specs.Fronts.{WritesFront}
use Rattle.textio.specs.Lines.{texts_of}
use Rattle.textio.proofs.Fronts.{front_more}
use Rattle.floorlog.specs.KeptText.{kept_text}
use Rattle.floorlog.specs.Events.{event}
use Rattle.floorlog.proofs.Replayed.{printed_more, line_observed}
use Rattle.floorlog.proofs.playing.PlayerObserver.line.Goals as goal

pub returns-in-Ok-clause-ok : goal.returns-in-Ok-clause-ok
returns-in-Ok-clause-ok g c =
    let one : c.in-Some.number ≡ c.args.self.now.played + 1 = search rules in
    line_observed (c.advance.ensures.played ∙ one) c.advance.ensures.device (rw one at c.advance.ensures.unplayed)
    (rw (one, c.in-Ok.is) at c.advance.ensures.text.whole)

pub returns-in-Err-clause-front : goal.returns-in-Err-clause-front
returns-in-Err-clause-front g c ls =
    let one : c.in-Some.number ≡ c.args.self.now.played + 1 = search rules in
    let e = event (kept_text c.args.line.now) in
    subst (WritesFront _ _) (sym (printed_more c.args.self.now.tested.device e refl (map event (texts_of ls)) _))
    (front_more _ _ _ _ (rw one at c.advance.ensures.text.front))
