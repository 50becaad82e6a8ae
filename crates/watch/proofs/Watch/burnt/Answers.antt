-- what it burnt has room for the stretch that is under way
use Rattle.std.proofs.Common.{arith, sym, ◌∙◌}
use Rattle.watch.specs.States.{state_of}
use Rattle.watch.proofs.Sound.{sound_from, burnt_fits}
use Rattle.watch.proofs.Watch.burnt.Goals as goal

pub overflow_sub-self : goal.overflow_sub-self
overflow_sub-self c = sound_from (state_of c.args.self.now) c.args.self.now.sound

pub burn-requires : goal.burn-requires
burn-requires c =
    let s = state_of c.args.self.now in
    burnt_fits s c.args.self.now.sound (sym c.is_burning_in.ensures ∙ c.if-is_burning_in.true) s.time (omega arith)
    (omega arith)
