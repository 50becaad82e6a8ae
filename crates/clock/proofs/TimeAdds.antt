-- Time adds: a seconds and then b are a + b, in the definition and in the calls.
-- Assumes nothing.
use Rattle.std.proofs.Common.{arith, ℕ, ◌+◌, ◌≤◌, ◌≡◌, refl}
use Rattle.record.specs.declared.types.Device.{Device}
use Rattle.clock.specs.Second.{second, times}
use Rattle.clock.specs.Passing.{seconds_most, time_passed}
use Rattle.clock.proofs.Repeated.{times-add}
use Rattle.clock.proofs.Cases.{passed_by, passed_illegal, passed_accepted}
use Rattle.clock.proofs.TimeLegal.{time_legal}

pub no_seconds : (d : Device) → times second 0 d ≡ d
unfolding times
no_seconds d = refl

pub seconds_add : (a b : ℕ) (d : Device) → times second (a + b) d ≡ times second b (times second a d)
seconds_add a b d = times-add second a b d

-- the whole result; of an illegal record it is the refusal all three times
pub time_adds : (a b : ℕ) (d : Device) → a + b ≤ seconds_most
    → time_passed (time_passed d a).leaves b ≡ time_passed d (a + b)
time_adds a b d within = grind (arith, passed_by, passed_illegal, passed_accepted, time_legal, seconds_add)
