-- The two arrays have the hours and the lit marks of the lamps passed.
use Rattle.std.proofs.Common.{ℕ, Bool, false, List, map}
use Rattle.words.specs.declared.lamp.LampHours.{LampHours}
use Rattle.text.proofs.RoomsFilled.{IsCopied}
use Rattle.pjlink.specs.Carried.{lamps_carried}
use Rattle.codes.specs.Readings.{hours_of, is_lit_lamp}
use Rattle.codes.proofs.lists.FlatLamps.of.Given as goal

pub record Passed (lamps : List LampHours) (hours : List ℕ) (lit : List Bool) (k : ℕ) : Type 0 where
  pub told : IsCopied 0 lamps_carried (map hours_of lamps) hours k
  pub shown : IsCopied false lamps_carried (map is_lit_lamp lamps) lit k

abbrev pub invariant-loop-k : goal.invariant-loop-k
invariant-loop-k l = Passed l.lamps l.hours l.lit l.k
