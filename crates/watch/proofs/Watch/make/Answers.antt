-- What the line says is made again, and moves the light on; a line that does not belong moves nothing.
use Rattle.std.proofs.Common.{◌≡◌, ◌+◌, sym, subst, ◌∙◌, arith}
use Rattle.history.specs.Entries.{entry_seen}
use Rattle.recorded.specs.Chain.{why_seen}
use Rattle.watch.specs.CallSteps.{entry_step}
use Rattle.watch.specs.States.{state_of}
use Rattle.watch.proofs.Sound.{sound_from, burnt_fits}
use Rattle.watch.proofs.OneLine.{stays_sound}
use Rattle.recorded.proofs.StrayKeeps.{KeepsOwn, stray_keeps}
use Rattle.watch.proofs.Strays.{is_left, left_sound}
use Rattle.watch.proofs.Watch.make.Goals as goal

pub invariant_of-self : goal.invariant_of-self
invariant_of-self c =
    let s = state_of c.args.self.now in
    let keeps = subst (KeepsOwn s.device) (sym c.make.ensures.device)
    (stray_keeps s.device (entry_seen c.args.entry.now) (why_seen c.in-Err.why) (sym c.in-Err.ensures.told)) in
    record { sound = left_sound s keeps c.args.self.now.sound }

pub returns-in-Err-clause-made : goal.returns-in-Err-clause-made
returns-in-Err-clause-made c =
    let s = state_of c.args.self.now in
    is_left s
    (subst (KeepsOwn s.device) (sym c.make.ensures.device)
    (stray_keeps s.device (entry_seen c.args.entry.now) (why_seen c.in-Err.why) (sym c.in-Err.ensures.told)))

pub follow-requires : goal.follow-requires
follow-requires c =
    let s = state_of c.args.self.now in
    let begun = sound_from s c.args.self.now.sound in
    record {
      begun = omega arith;
      fits =
          λ lit. burnt_fits s c.args.self.now.sound (sym c.is_burning_in-was.ensures ∙ lit) c.in_ok-time.time
          (omega arith) (omega arith);
    }

pub invariant_of-self-3 : goal.invariant_of-self-3
invariant_of-self-3 c =
    let s = state_of c.args.self.now in
    let timed : c.in_ok-time.time ≡ c.args.self.now.time + c.seconds_of-seconds.result = omega arith in
    record {
      sound = stays_sound (entry_step s.device (entry_seen c.args.entry.now)) s c.make.ensures.device
          c.seconds_of-seconds.ensures timed c.is_burning_in-was.ensures c.follow.ensures.from
          c.follow.ensures.burnt c.args.self.now.sound;
    }
