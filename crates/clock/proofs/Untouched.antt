-- Time changes nothing but power, seconds left, lamps, and an awaiting or failed connection.
--   Untouched before after      all else is after as it was before
-- Assumes nothing.
use Rattle.std.proofs.Common.{arith, ℕ, ◌≡◌, refl, ap, false}
use Rattle.record.specs.Legal.{is_timed}
use Rattle.record.specs.Updates.{with_power_left, with_seconds}
use Rattle.record.specs.Places.{connection_at}
use Rattle.record.specs.declared.types.Settings.{Settings}
use Rattle.record.specs.declared.types.Own.{Own}
use Rattle.record.specs.declared.types.Device.{Device}
use Rattle.clock.specs.Second.{times, own_second, second}
use Rattle.clock.specs.Passing.{time_passed}
use Rattle.clock.proofs.ConnectionsAge.{untimed_stays}
use Rattle.clock.proofs.InOneGo.{parts_pass, place_passes}
use Rattle.clock.proofs.Repeated.{times_keeps}

pub record Untouched (before after : Device) : Type 0 where
  pub settings : after.settings ≡ before.settings
  pub own : after.own
      ≡ with_seconds (with_power_left before.own after.own.power after.own.left) after.own.lamps
  pub connection : (p : ℕ) → is_timed (connection_at before p).phase ≡ false → connection_at after p
      ≡ connection_at before p

-- the chosen input, the mutes, the fault mark and the error digits stay
module _ (n : ℕ) (s : Settings) (o : Own) where
  abbrev then : Own
  then = times (own_second s) n o

  pub own_else_stays : then ≡ with_seconds (with_power_left o then.power then.left) then.lamps
  unfolding own_second
  own_else_stays =
      times_keeps (λ (x : Own). x ≡ with_seconds (with_power_left o x.power x.left) x.lamps) (own_second s)
      (λ x h.
      ap (λ (y : Own). with_seconds (with_power_left y (own_second s x).power (own_second s x).left)
      (own_second s x).lamps) h)
      n o refl

pub time_leaves : (n : ℕ) (d : Device) → Untouched d (times second n d)
time_leaves n d = grind (arith, parts_pass, own_else_stays, place_passes, untimed_stays)

pub passed_leaves : (d : Device) (n : ℕ) → Untouched d (time_passed d n).leaves
unfolding time_passed
passed_leaves d n = grind (arith, time_leaves)
