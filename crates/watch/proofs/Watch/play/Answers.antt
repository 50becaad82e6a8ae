-- The line's event is played, and moves the light on.
use Rattle.std.proofs.Common.{◌≡◌, ◌+◌, ◌∙◌, refl, ap, sym, arith}
use Rattle.floorlog.specs.KeptText.{kept_text}
use Rattle.watch.specs.Marking.{floor_event, floor_step, done_by, seconds_by, watched_answer}
use Rattle.watch.specs.States.{state_of}
use Rattle.watch.proofs.LineLeaves.{driven}
use Rattle.watch.proofs.Sound.{sound_from, burnt_fits}
use Rattle.watch.proofs.OneLine.{line_watched, stays_sound}
use Rattle.watch.proofs.Watch.play.Goals as goal

pub returns-in_err-time-clause-uncounted : goal.returns-in_err-time-clause-uncounted
returns-in_err-time-clause-uncounted c =
    let seconds = c.seconds_of-seconds.ensures ∙ ap seconds_by c.read-event.ensures in
    λ e. omega arith

pub follow-ended-requires : goal.follow-ended-requires
follow-ended-requires c =
    let s = state_of c.args.self.now in
    let begun = sound_from s c.args.self.now.sound in
    record {
      begun = omega arith;
      fits =
          λ lit. burnt_fits s c.args.self.now.sound (sym c.is_burning_in-was.ensures ∙ lit) c.in_ok-time.time
          (omega arith) (omega arith);
    }

pub invariant_of-self-2 : goal.invariant_of-self-2
invariant_of-self-2 c =
    let e = floor_event (kept_text c.args.line.now) in
    let s = state_of c.args.self.now in
    let done = c.call-answer.ensures.device ∙ ap (done_by s.device) c.read-event.ensures in
    let seconds = c.seconds_of-seconds.ensures ∙ ap seconds_by c.read-event.ensures in
    let timed : c.in_ok-time.time ≡ c.args.self.now.time + c.seconds_of-seconds.result = omega arith in
    record {
      sound = stays_sound (floor_step s.device e) s done seconds timed c.is_burning_in-was.ensures
          c.follow-ended.ensures.from c.follow-ended.ensures.burnt c.args.self.now.sound;
    }

pub returns-clause-watched : goal.returns-clause-watched
returns-clause-watched c =
    let e = floor_event (kept_text c.args.line.now) in
    let s = state_of c.args.self.now in
    let done = c.call-answer.ensures.device ∙ ap (done_by s.device) c.read-event.ensures in
    let seconds = c.seconds_of-seconds.ensures ∙ ap seconds_by c.read-event.ensures in
    let timed : c.in_ok-time.time ≡ c.args.self.now.time + c.seconds_of-seconds.result = omega arith in
    line_watched (floor_step s.device e) s done seconds timed c.is_burning_in-was.ensures c.follow-ended.ensures.from
    c.follow-ended.ensures.burnt
    c.follow-ended.ensures.told

pub returns-clause-places : goal.returns-clause-places
returns-clause-places c =
    let e = floor_event (kept_text c.args.line.now) in
    let d = c.args.self.now.tested.device in
    driven d e refl (c.call-answer.ensures.device ∙ ap (done_by d) c.read-event.ensures)

pub returns-clause-answer : goal.returns-clause-answer
returns-clause-answer c =
    c.call-answer.ensures.answer ∙ ap (watched_answer c.args.self.now.tested.device) c.read-event.ensures
