-- Demand 1 for the call of this crate: the number by legality, and a refusal leaves the record that was given.
-- Assumes nothing.
use Rattle.std.proofs.Common.{ℕ, ◌≡◌, refl, sym, ap, Bool, if◌then◌else◌}
use Rattle.text.specs.Outcomes.{call_number}
use Rattle.record.specs.Legal.{is_legal}
use Rattle.record.specs.Refusals.{refusal_number}
use Rattle.record.specs.declared.types.Device.{Device}
use Rattle.clock.specs.Passing.{time_passed}
use Rattle.clock.proofs.Cases.{passed_by}

module _ (d : Device) (n : ℕ) where
  abbrev number : Bool → ℕ
  number legal = if legal then 0 else 1

  pub passed_number : call_number refusal_number (time_passed d n) ≡ (if is_legal d then 0 else 1)
  passed_number =
      passed_by (λ r. call_number refusal_number r ≡ number (is_legal d)) d n (λ h. sym (ap number h))
      (λ h. sym (ap number h))

  pub passed_refusal : (call_number refusal_number (time_passed d n) ≡ 0 → ⊥) → (time_passed d n).leaves ≡ d
  passed_refusal =
      passed_by (λ r. (call_number refusal_number r ≡ 0 → ⊥) → r.leaves ≡ d) d n (λ h e. refl) (λ h e. absurd (e refl))
