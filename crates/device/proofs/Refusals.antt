-- A number other than 0 leaves the record that was given, takes nothing and writes nothing (RULES, The numbers a call
-- gives).
-- Assumes nothing.
use Rattle.std.proofs.Common.{ℕ, ◌≡◌, refl, List, [], Result, Ok, Err}
use Rattle.text.specs.Outcomes.{CallResult, outcome_number, call_number, answer_number, number_answered}
use Rattle.record.specs.Refusals.{refusal_number}
use Rattle.record.specs.declared.refusal.Refusal.{Refusal}
use Rattle.record.specs.declared.types.Device.{Device}
use Rattle.device.specs.Calls.{received_at, opened_by, closed_by}
use Rattle.device.proofs.Cases.{received_by, opened_by_lem, closed_by_lem}

pub record Refused {A : Type 0} (d : Device) (r : CallResult Refusal A Device) : Type 0 where
  pub device : r.leaves ≡ d
  pub reply : r.bytes ≡ []

abbrev IsRefused : {A : Type 0} → CallResult Refusal A Device → Type 0
IsRefused r = call_number refusal_number r ≡ 0 → ⊥

abbrev RefusedUnless0 : {A : Type 0} → Device → CallResult Refusal A Device → Type 0
RefusedUnless0 d r = IsRefused r → Refused d r

-- it answers no number: neither bytes taken, nor a place
none_said : (r : Result ℕ Refusal) → (outcome_number refusal_number r ≡ 0 → ⊥) → answer_number (λ n. n) r ≡ 0
none_said (Ok n) some = absurd (some refl)
none_said (Err e) some = refl

pub none_answered : (r : CallResult Refusal ℕ Device) → IsRefused r → number_answered r ≡ 0
none_answered r some = none_said r.says some

module _ (d : Device) where
  pub receiving_refused : (p : ℕ) (bs : List ℕ) (room : ℕ) → IsRefused (received_at d p bs room)
      → Refused d (received_at d p bs room)
  receiving_refused p bs room =
      received_by d p bs room (RefusedUnless0 d) (λ e z some. record { device = refl; reply = refl })
      (λ h s t c n. absurd (n refl))

  pub opening_refused : (r room : ℕ) → IsRefused (opened_by d r room) → Refused d (opened_by d r room)
  opening_refused r room =
      opened_by_lem d r room (RefusedUnless0 d) (λ e z some. record { device = refl; reply = refl })
      (λ h s c n. absurd (n refl))

  pub closing_refused : (p : ℕ) → IsRefused (closed_by d p) → Refused d (closed_by d p)
  closing_refused p =
      closed_by_lem d p (RefusedUnless0 d) (λ e z some. record { device = refl; reply = refl })
      (λ h t c n. absurd (n refl))
