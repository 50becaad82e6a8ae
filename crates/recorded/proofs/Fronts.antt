-- A front of what is recorded is what is recorded of a front of the calls.
-- Assumes nothing.
use Rattle.std.proofs.Common.{ℕ, zero, suc, ◌≤◌, ◌≡◌, Bool, true, false, List, [], ◌∷◌, arith, length, take}
use Rattle.std.proofs.Common.{refl, sym, ap, ◌∙◌, if◌then◌else◌}
use Rattle.text.proofs.Choices.{if_yes, if_no}
use Rattle.record.specs.declared.types.Device.{Device}
use Rattle.ours.specs.Board.{ours}
use Rattle.demands.specs.Calls.{Call, after}
use Rattle.history.specs.Calls.{LogCall}
use Rattle.history.specs.Entries.{LogEntry, header, call, stated}
use Rattle.recorded.specs.Recorded.{is_served, recorded_call, recorded}
use Rattle.recorded.specs.Playing.{entry_calls}

pub calls_front : (es : List LogEntry) (k : ℕ) → (j : ℕ) × (entry_calls (take k es) ≡ take j (entry_calls es))
calls_front es zero = (0, refl)
calls_front [] (suc k) = (0, refl)
calls_front (call c ∷ es) (suc k) =
    let (j, e) = calls_front es k in (suc j, ap (λ (l : List LogCall). c ∷ l) e)
calls_front (header f s t ∷ es) (suc k) = calls_front es k
calls_front (stated n s shown ∷ es) (suc k) = calls_front es k

abbrev Front : Device → List Call → ℕ → Type 0
Front d cs j = (k : ℕ) × (k ≤ length cs) × (take j (recorded d cs) ≡ recorded d (take k cs))

front_next : (d : Device) (c : Call) (cs : List Call) (j : ℕ) (t : Bool) → is_served d c ≡ t
    → ((i : ℕ) → Front (after ours d c) cs i)
    → (k : ℕ) × (k ≤ length (c ∷ cs))
    × (take (suc j) (if t then recorded_call d c ∷ recorded (after ours d c) cs else recorded (after ours d c) cs)
    ≡ recorded d (take k (c ∷ cs)))
front_next d c cs j true h rest =
    let (k, few, e) = rest j in
    (suc k, omega arith, ap (λ (l : List LogCall). recorded_call d c ∷ l) e ∙ sym (if_yes _ _ h))
front_next d c cs j false h rest =
    let (k, few, e) = rest (suc j) in (suc k, omega arith, e ∙ sym (if_no _ _ h))

pub recorded_front : (d : Device) (cs : List Call) (j : ℕ) → Front d cs j
recorded_front d cs zero = (0, omega arith, refl)
recorded_front d [] (suc j) = (0, omega arith, refl)
recorded_front d (c ∷ cs) (suc j) =
    front_next d c cs j (is_served d c) refl (λ i. recorded_front (after ours d c) cs i)
