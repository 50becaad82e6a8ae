-- The recorder refuses none of a host's calls, given room for each line, once there is a file and while lines can be
-- counted.
-- Assumes nothing.
use Rattle.std.proofs.Common.{ℕ, suc, ◌+◌, ◌≤◌, ◌<◌, ◌≡◌, Bool, true, false, List, [], ◌∷◌, arith, length, sym, subst}
use Rattle.std.proofs.Common.{refl, leb-true, nat_le, le-leb, Option}
use Rattle.std.specs.Result.{is_ok}
use Rattle.std.proofs.lemmas.Bool.Decides.{nat_tests}
use Rattle.text.specs.Outcomes.{CallResult, served_as}
use Rattle.text.proofs.Choices.{both, if_yes, if_no}
use Rattle.record.specs.declared.types.Device.{Device}
use Rattle.record.specs.declared.refusal.Refusal.{Refusal}
use Rattle.ours.specs.Board.{ours}
use Rattle.demands.specs.Calls.{Call, after, gave_by}
use Rattle.history.specs.Calls.{received_most}
use Rattle.history.specs.Lines.{number_most}
use Rattle.history.specs.Entries.{LogEntry, header, call, stated, is_sayable_entry, is_time_if_any}
use Rattle.history.specs.Shown.{device_shown}
use Rattle.history.specs.Recording.{log_line_room, cannot_follow, recorded_by, header_next, stated_next}
use Rattle.history.specs.Recording.{advanced}
use Rattle.history.specs.declared.recorder.Recorder.{Recorder}
use Rattle.history.proofs.Chain.{Tried, served, refused, tried, stated_tried, recorded_if}
use Rattle.recorded.specs.Recorded.{is_served, recorded_call, TakeFew}
use Rattle.recorded.specs.Hosts.{HostStep, begins, makes, states, step_written, step_calls, AreKept, HaveRoom}
use Rattle.recorded.proofs.CallsSayable.{sayable}

goes_on : (r : Recorder) (c : LogEntry) → 1 ≤ r.file → r.lines < number_most → cannot_follow r c ≡ false
goes_on r (header f s t) there few = refl
goes_on r (call c) there few = grind (arith, nat_tests, there, few)
goes_on r (stated n s shown) there few = grind (arith, nat_tests, there, few)

pub call_kept : (d : Device) (c : Call) → is_served d c ≡ true → (gave_by ours d c).taken ≤ received_most
    → (r : Recorder)
    → 1 ≤ r.file
    → r.lines < number_most
    → (n : ℕ)
    → log_line_room ≤ n
    → is_ok (recorded_by r (call (recorded_call d c)) n).says ≡ true
call_kept d c done few r there lines n room =
    let e = call (recorded_call d c) in
    recorded_if r e n room (sayable d c done few) (goes_on r e there lines)

-- there is a file, and so many lines more can be counted
record Going (r : Recorder) (k : ℕ) : Type 0 where
  file : 1 ≤ r.file
  lines : r.lines + k < number_most

fewer : (r : Recorder) (k : ℕ) → Going r (suc k) → Going r k
fewer r k g = record { file = g.file; lines = omega (arith, g.lines) }

one_more : (r : Recorder) (e : LogEntry) (k : ℕ) → (nat_le 1 (advanced r e).file ≡ true) → Going r (suc k)
    → Going (advanced r e) k
one_more r (header f s t) k h g = record { file = leb-true 1 f h; lines = omega (arith, g.lines) }
one_more r (call c) k h g = record { file = g.file; lines = omega (arith, g.lines) }
one_more r (stated n s shown) k h g = record { file = g.file; lines = omega (arith, g.lines) }

going_next : (r : Recorder) (e : LogEntry) (w : CallResult Refusal (Unit {0}) Recorder) (k : ℕ)
    → nat_le 1 (advanced r e).file ≡ true
    → Tried r e w
    → Going r (suc k)
    → Going w.leaves k
going_next r e w k some t g =
    elim t [
      | served h free said bytes next ↦ subst (λ (q : Recorder). Going q k) (sym next) (one_more r e k some g)
      | refused said bytes next ↦ subst (λ (q : Recorder). Going q k) (sym next) (fewer r k g)
    ]

after_call : (r : Recorder) (d : Device) (c : Call) (n k : ℕ) (t : Bool) → is_served d c ≡ t → Going r (suc k)
    → Going (step_written r d (makes c) n).leaves k
after_call r d c n k true h g =
    let e = call (recorded_call d c) in
    subst (λ (w : CallResult Refusal (Unit {0}) Recorder). Going w.leaves k)
    (sym (if_yes (recorded_by r e n) (served_as tt [] r) h))
    (going_next r e (recorded_by r e n) k (grind (arith, nat_tests, g.file)) (tried r e n) g)
after_call r d c n k false h g =
    subst (λ (w : CallResult Refusal (Unit {0}) Recorder). Going w.leaves k)
    (sym (if_no (recorded_by r (call (recorded_call d c)) n) (served_as tt [] r) h)) (fewer r k g)

kept_from : (ss : List (HostStep × ℕ)) (r : Recorder) (d : Device) → Going r (length ss) → HaveRoom ss
    → TakeFew d (step_calls ss)
    → AreKept r d ss
kept_from [] r d g room few = tt
kept_from ((begins t, n) ∷ ss) r d g (room, rooms) few =
    let e = header_next r t in (
      tt,
      kept_from ss (step_written r d (begins t) n).leaves d
          (going_next r e (recorded_by r e n) (length ss) (grind (arith, nat_tests)) (tried r e n) g)
          rooms few,
    )
kept_from ((makes c, n) ∷ ss) r d g (room, rooms) (few, fews) = (
  λ done. call_kept d c done few r g.file (omega (arith, g.lines)) n room,
  kept_from ss (step_written r d (makes c) n).leaves (after ours d c)
      (after_call r d c n (length ss) (is_served d c) refl g) rooms fews,
)
kept_from ((states, n) ∷ ss) r d g (room, rooms) few = (
  tt,
  kept_from ss (step_written r d states n).leaves d
      (going_next r (stated_next r (device_shown d)) _ (length ss)
      (grind (arith, nat_tests, g.file)) (stated_tried r d n) g) rooms few,
)

pub calls_kept : (d : Device) (ss : List (HostStep × ℕ)) → HaveRoom ss → TakeFew d (step_calls ss) → (r : Recorder)
    → 1 ≤ r.file
    → r.lines + length ss < number_most
    → AreKept r d ss
calls_kept d ss room few r there lines = kept_from ss r d (record { file = there; lines = lines }) room few

-- and so once a file was begun
begun_first : (r : Recorder) (d : Device) (t : Option (List ℕ)) (n : ℕ) (ss : List (HostStep × ℕ))
    → Tried r (header_next r t) (recorded_by r (header_next r t) n)
    → is_ok (recorded_by r (header_next r t) n).says ≡ true
    → length ss < number_most
    → HaveRoom ss
    → TakeFew d (step_calls ss)
    → AreKept (recorded_by r (header_next r t) n).leaves d ss
begun_first r d t n ss tried done few room take =
    elim tried [
      | served h free said bytes next ↦
          kept_from ss (recorded_by r (header_next r t) n).leaves d
          (subst (λ (q : Recorder). Going q (length ss)) (sym next)
          (record { file = omega arith; lines = omega (arith, few) })) room take
      | refused said bytes next ↦ absurd (grind (arith, done, said))
    ]

pub begun_kept : (d : Device) (ss : List (HostStep × ℕ)) (t : Option (List ℕ)) (n : ℕ) → is_time_if_any t ≡ true
    → HaveRoom ((begins t, n) ∷ ss)
    → TakeFew d (step_calls ss)
    → (r : Recorder)
    → r.file < number_most
    → length ss < number_most
    → AreKept r d ((begins t, n) ∷ ss)
begun_kept d ss t n time (room, rooms) take r files few =
    let e = header_next r t in
    let h : is_sayable_entry e ≡ true
    = both
    (both (le-leb 1 (r.file + 1) (omega arith)) (le-leb (r.file + 1) number_most (omega (arith, files)))) time in (
      tt,
      begun_first r d t n ss (tried r e n) (recorded_if r e n room h refl) few rooms take,
    )
