-- Two stretches on a rig share a second exactly if each begins before the other one ends.
-- Assumes nothing.
use Rattle.std.proofs.Common.{◌+◌, ◌-◌, ◌≤◌, ◌<◌, arith, max}
use Rattle.day.specs.Rules.{Meet}
use Rattle.day.specs.declared.Job.{Job}
use Rattle.day.specs.declared.Rig.{Rig}

module _ (r : Rig) (i j : Job) where
  pub meet_from_starts : 1 ≤ i.length → 1 ≤ j.length
      → i.start < j.start + j.length + (r.cooling + r.warm_up)
      → j.start < i.start + i.length + (r.cooling + r.warm_up) → Meet r i j
  meet_from_starts a b p q = (
    max (i.start - r.warm_up) (j.start - r.warm_up),
    record { begun = omega arith; lasting = omega arith },
    record { begun = omega arith; lasting = omega arith },
  )

  pub starts_from_meet : Meet r i j
      → (i.start < j.start + j.length + (r.cooling + r.warm_up))
      × (j.start < i.start + i.length + (r.cooling + r.warm_up))
  starts_from_meet (t, o, p) = (omega arith, omega arith)
