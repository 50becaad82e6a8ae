-- Each call that is served can be said by a line.
-- Assumes nothing.
use Rattle.std.specs.List.{list_all}
use Rattle.std.proofs.Common.{ℕ, zero, suc, ◌≤◌, ◌<◌, ◌≡◌, Bool, true, false, List, [], ◌∷◌, arith, length-take, take}
use Rattle.std.proofs.Common.{refl, eqb-true, eq-eqb, if◌then◌else◌, map}
use Rattle.text.proofs.Choices.{both, both_left, both_right}
use Rattle.text.specs.Outcomes.{call_number}
use Rattle.record.specs.Limits.{places_count}
use Rattle.record.specs.Refusals.{refusal_number}
use Rattle.record.specs.Rules.{is_error_list}
use Rattle.record.specs.declared.types.Device.{Device}
use Rattle.record.proofs.Calls.{errors_set_by}
use Rattle.record.proofs.LegalTold.{settings_of_legal}
use Rattle.record.proofs.Rules.{errors_long, list_all-is_at_most}
use Rattle.ours.specs.Board.{ours}
use Rattle.demands.specs.Calls.{Call, opens, closes, receives, passes, faults, reports, enables, after, gave_by}
use Rattle.demands.proofs.CallsDo.{IsServed, call_by}
use Rattle.history.specs.Calls.{received_most, is_byte, is_sayable, IsTyped}
use Rattle.history.specs.Entries.{call}
use Rattle.history.specs.Logs.{Sayable}
use Rattle.recorded.specs.Recorded.{is_served, recorded_call, recorded, IsTypedCall, AreTypedCalls, TakeFew}

bytes_taken : (n : ℕ) (bs : List ℕ) → list_all is_byte bs ≡ true → list_all is_byte (take n bs) ≡ true
bytes_taken zero bs h = refl
bytes_taken (suc n) [] h = refl
bytes_taken (suc n) (b ∷ bs) h =
    both (both_left (is_byte b) _ h) (bytes_taken n bs (both_right (is_byte b) (list_all is_byte bs) h))

module _ (d : Device) where
  served_there : (c : Call) → is_served d c ≡ true → IsServed d c
  served_there c h =
      call_by d c (λ g e. g.number ≡ 0 → IsServed d c) (λ n some z. absurd (some z)) (λ there z. there)
      (eqb-true _ 0 h)

  place_there : (random : ℕ) (m : List ℕ) → is_served d (opens random m) ≡ true
      → ours.place_opened d random m < places_count
  place_there random m h =
      call_by d (opens random m) (λ g e. g.number ≡ 0 → g.place < places_count) (λ n some z. absurd (some z))
      (λ there z. there.there) (eqb-true _ 0 h)

  errors_right : (ds : List ℕ) → is_served d (reports ds) ≡ true → is_error_list ds ≡ true
  errors_right ds h =
      errors_set_by d (λ c. call_number refusal_number c ≡ 0 → is_error_list ds ≡ true) ds (λ z. absurd (omega arith))
      (λ z. absurd (omega arith))
      (λ legal right z. right) (eqb-true _ 0 h)

  pub typed : (c : Call) → IsTypedCall c → IsTyped (recorded_call d c)
  typed (opens random m) t = t
  typed (closes p) t = tt
  typed (receives p bs m) t = grind (arith, bytes_taken (ours.receive d p bs m).taken bs)
  typed (passes n) t = t
  typed (faults fault) t = tt
  typed (reports errors) t = tt
  typed (enables lamp mark) t = tt

  pub sayable : (c : Call) → is_served d c ≡ true → (gave_by ours d c).taken ≤ received_most
      → is_sayable (recorded_call d c) ≡ true
  sayable (opens random m) h few = grind (arith, place_there random m h)
  sayable (closes p) h few = grind (arith, (served_there (closes p) h).there.0)
  sayable (receives p bs m) h few =
      grind (arith, (served_there (receives p bs m) h).there.0, length-take (ours.receive d p bs m).taken bs)
  sayable (passes n) h few = refl
  sayable (faults fault) h few = refl
  sayable (reports errors) h few =
      let right = errors_right errors h in
      both (eq-eqb _ _ (errors_long errors right)) (list_all-is_at_most errors right)
  sayable (enables lamp mark) h few =
      let there = served_there (enables lamp mark) h in
      grind (arith, there.there, (settings_of_legal d there.legal).lamps)

calls_next : (d : Device) (c : Call) (cs : List Call) (t : Bool) → is_served d c ≡ t → IsTypedCall c
    → (gave_by ours d c).taken ≤ received_most
    → Sayable (map call (recorded (after ours d c) cs))
    → Sayable (map call (if t then recorded_call d c ∷ recorded (after ours d c) cs else recorded (after ours d c) cs))
calls_next d c cs true h t few rest = (typed d c t, sayable d c h few, rest)
calls_next d c cs false h t few rest = rest

pub calls_sayable : (d : Device) (cs : List Call) → AreTypedCalls cs → TakeFew d cs
    → Sayable (map call (recorded d cs))
calls_sayable d [] t few = tt
calls_sayable d (c ∷ cs) (t, ts) (few, fews) =
    calls_next d c cs (is_served d c) refl t few (calls_sayable (after ours d c) cs ts fews)
