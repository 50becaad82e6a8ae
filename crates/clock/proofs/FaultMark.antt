-- The fault mark changes nothing that time does: to set it and let n seconds pass is to let them pass and set it.
-- Assumes nothing.
use Rattle.std.proofs.Common.{arith, ℕ, ◌≡◌, refl, sym, ap, ◌∙◌, Bool, true, false, []}
use Rattle.text.specs.Flags.{flag_of}
use Rattle.text.specs.Outcomes.{served_as}
use Rattle.record.specs.Legal.{is_legal}
use Rattle.record.specs.Updates.{with_own, with_fault}
use Rattle.record.specs.HostCalls.{fault_set}
use Rattle.record.specs.declared.types.Device.{Device}
use Rattle.record.proofs.Calls.{fault_illegal, fault_accepted}
use Rattle.record.proofs.HostKept.{fault_kept}
use Rattle.clock.specs.Second.{times, own_second, second}
use Rattle.clock.specs.Passing.{time_passed}
use Rattle.clock.proofs.Repeated.{times_commute}
use Rattle.clock.proofs.Cases.{passed_illegal, passed_accepted}
use Rattle.clock.proofs.TimeLegal.{time_legal}

abbrev marked : Bool → Device → Device
marked m d = with_own d (with_fault d.own (flag_of m))

pub times-marked : (n : ℕ) (d : Device) (m : Bool) → times second n (marked m d) ≡ marked m (times second n d)
unfolding own_second second
times-marked n d m = times_commute second (marked m) (λ x. refl) n d

module _ (n : ℕ) (d : Device) (m : Bool) where
  of_illegal : is_legal d ≡ false → time_passed (fault_set d m).leaves n ≡ fault_set (time_passed d n).leaves m
  of_illegal h =
      ap (λ r. time_passed r.leaves n) (fault_illegal d m h)
      ∙ passed_illegal d n h
      ∙ sym (fault_illegal d m h)
      ∙ ap (λ r. fault_set r.leaves m) (sym (passed_illegal d n h))

  of_legal : is_legal d ≡ true → time_passed (fault_set d m).leaves n ≡ fault_set (time_passed d n).leaves m
  of_legal h =
      ap (λ r. time_passed r.leaves n) (fault_accepted d m h)
      ∙ passed_accepted (marked m d) n (fault_kept d h m)
      ∙ ap (λ (x : Device). served_as tt [] x) (times-marked n d m)
      ∙ sym (fault_accepted (times second n d) m (time_legal n d h))
      ∙ ap (λ r. fault_set r.leaves m) (sym (passed_accepted d n h))

-- the two calls, one after the other
pub fault_and_time : (n : ℕ) (d : Device) (m : Bool)
    → time_passed (fault_set d m).leaves n ≡ fault_set (time_passed d n).leaves m
fault_and_time n d m = grind (arith, of_illegal, of_legal)
