-- What the recorder writes is a history.
-- Assumes nothing.
use Rattle.std.proofs.Common.{ℕ, ◌+◌, ◌<◌, ◌^◌, ◌≡◌, Bool, true, false, List, [], ◌∷◌, ◌++◌, arith}
use Rattle.std.proofs.Common.{refl, sym, ap, ◌∙◌, nat_lt, ◌≤◌, le-ltb}
use Rattle.std.proofs.Common.{subst, if◌then◌else◌}
use Rattle.std.specs.Result.{is_ok}
use Rattle.text.specs.Outcomes.{CallResult}
use Rattle.text.proofs.Choices.{if_no}
use Rattle.record.specs.Legal.{is_legal}
use Rattle.record.specs.declared.types.Device.{Device}
use Rattle.record.specs.declared.refusal.Refusal.{Refusal}
use Rattle.crc32.specs.Crc.{crc32_on, crc32_of}
use Rattle.crc32.proofs.GoesOn.{crc32_on-crc32_of}
use Rattle.crc32.proofs.Changes.{AreBytes, crc32_on_within, crc32_of_within}
use Rattle.history.specs.Entries.{LogEntry, is_sayable_entry, IsTypedEntry, entry_line}
use Rattle.history.specs.Logs.{Sayable, log_text, LogPosition, begun_at, past, FitsAt, IsHistory}
use Rattle.history.specs.Recording.{log_line_room, cannot_follow, recorded_by, advanced, stated_next, stated_by}
use Rattle.history.specs.Shown.{device_shown}
use Rattle.history.specs.Recording.{Asked, begins, makes, states, asked_entry, recorder_begun, entry_if_served}
use Rattle.history.specs.Recording.{entries_recorded, bytes_recorded, IsTypedAsked, AreTyped}
use Rattle.history.specs.declared.recorder.Recorder.{Recorder}
use Rattle.history.proofs.Printable.{line_bytes}

-- the recorder keeps where the log stands
record KeptAt (r : Recorder) (p : LogPosition) : Type 0 where
  file : r.file ≡ p.file
  lines : r.lines ≡ p.lines
  sum : r.sum ≡ crc32_of p.before
  few : r.lines < 2 ^ 32
  within : r.sum < 2 ^ 32

sum_goes_on : (p : LogPosition) (r : Recorder) (l : List ℕ) → r.sum ≡ crc32_of p.before
    → crc32_on r.sum l ≡ crc32_of (p.before ++ l)
sum_goes_on p r l e = ap (λ (c : ℕ). crc32_on c l) e ∙ crc32_on-crc32_of p.before l

module _ (r : Recorder) (p : LogPosition) (k : KeptAt r p) where
  fits : (a : Asked) → cannot_follow r (asked_entry r a) ≡ false → FitsAt p (asked_entry r a)
  fits (begins t) h = (ap (λ (n : ℕ). n + 1) k.file, k.sum)
  fits (makes c) h = grind (arith, k.file)
  fits (states s) h = (grind (arith, k.file), k.lines, k.sum)

  typed : (a : Asked) → IsTypedAsked a → IsTypedEntry (asked_entry r a)
  typed (begins t) h = k.within
  typed (makes c) h = h
  typed (states s) h = (k.few, k.within)

  kept_past : (a : Asked) → is_sayable_entry (asked_entry r a) ≡ true → cannot_follow r (asked_entry r a) ≡ false
      → KeptAt (advanced r (asked_entry r a)) (past p (asked_entry r a))
  kept_past (begins t) e h = record {
    file = refl;
    lines = refl;
    sum = sum_goes_on p r _ k.sum;
    few = omega arith;
    within = crc32_on_within r.sum _ k.within (line_bytes _ e);
  }
  kept_past (makes c) e h = record {
    file = k.file;
    lines = ap (λ (n : ℕ). n + 1) k.lines;
    sum = sum_goes_on p r _ k.sum;
    few = grind (arith, k.few);
    within = crc32_on_within r.sum _ k.within (line_bytes _ e);
  }
  kept_past (states s) e h = record {
    file = k.file;
    lines = ap (λ (n : ℕ). n + 1) k.lines;
    sum = sum_goes_on p r _ k.sum;
    few = grind (arith, k.few);
    within = crc32_on_within r.sum _ k.within (line_bytes _ e);
  }

-- what the recorder gives of an entry: served, or refused and nothing written, and what was kept stays
pub data Tried (r : Recorder) (e : LogEntry) (w : CallResult Refusal (Unit {0}) Recorder) : Type 0 where
  served : is_sayable_entry e ≡ true → cannot_follow r e ≡ false
      → is_ok w.says ≡ true
      → w.bytes ≡ entry_line e
      → w.leaves ≡ advanced r e
      → Tried r e w
  refused : is_ok w.says ≡ false → w.bytes ≡ [] → w.leaves ≡ r → Tried r e w

pub tried : (r : Recorder) (e : LogEntry) (room : ℕ) → Tried r e (recorded_by r e room)
unfolding recorded_by
tried r e room = by (nat_lt room log_line_room) (is_sayable_entry e) (cannot_follow r e) refl refl refl
  where
    by : (a b c : Bool) → nat_lt room log_line_room ≡ a → is_sayable_entry e ≡ b → cannot_follow r e ≡ c
        → Tried r e (recorded_by r e room)
    by true b c p q s = refused (simp p) (simp p) (simp p)
    by false false c p q s = refused (simp (p, q)) (simp (p, q)) (simp (p, q))
    by false true true p q s = refused (simp (p, q, s)) (simp (p, q, s)) (simp (p, q, s))
    by false true false p q s = served q s (simp (p, q, s)) (simp (p, q, s)) (simp (p, q, s))

-- what can be said, with room for a line and while lines can be counted, is recorded
pub recorded_if : (r : Recorder) (e : LogEntry) (room : ℕ) → log_line_room ≤ room → is_sayable_entry e ≡ true
    → cannot_follow r e ≡ false
    → is_ok (recorded_by r e room).says ≡ true
unfolding recorded_by
recorded_if r e room enough h free = simp (le-ltb room log_line_room enough, h, free)

-- of what a record shows
pub stated_tried : (r : Recorder) (d : Device) (room : ℕ)
    → Tried r (stated_next r (device_shown d)) (stated_by r d room)
unfolding stated_by
stated_tried r d room = by (is_legal d) refl
  where
    by : (a : Bool) → is_legal d ≡ a
        → Tried r (stated_next r (device_shown d)) (stated_by r d room)
    by true p = elim (tried r (stated_next r (device_shown d)) room) [
      | served h free said bytes next ↦
          served h free (simp p said) (simp p bytes) (simp p next)
      | refused said bytes next ↦ refused (simp p said) (simp p bytes) (simp p next)
    ]
    by false p = refused (simp p) (simp p) (simp p)

pub record Recorded (p : LogPosition) (r : Recorder) (asked : List (Asked × ℕ)) : Type 0 where
  pub history : IsHistory p (entries_recorded r asked)
  pub sayable : Sayable (entries_recorded r asked)
  pub written : bytes_recorded r asked ≡ log_text (entries_recorded r asked)

recorded_from : (asked : List (Asked × ℕ)) (r : Recorder) (p : LogPosition) → KeptAt r p → AreTyped asked
    → Recorded p r asked
recorded_from [] r p k t = record { history = tt; sayable = tt; written = refl }
recorded_from ((a, room) ∷ more) r p k (t, ts) =
    let e = asked_entry r a in
    elim (tried r e room) [
      | served ok free said bytes after ↦
          let entries : entry_if_served (recorded_by r e room) e ≡ e ∷ []
          = ap (λ (t : Bool). if t then e ∷ [] else []) said in
          let next : Recorded (past p e) (advanced r e) more
          = recorded_from more (advanced r e) (past p e) (kept_past r p k a ok free) ts in
          let all : entries_recorded r ((a, room) ∷ more) ≡ e ∷ entries_recorded (advanced r e) more
          = (λ i. entries i ++ entries_recorded (after i) more) in
          record {
            history = subst (λ (es : List LogEntry). IsHistory p es) (sym all) (fits r p k a free, next.history);
            sayable = subst (λ (es : List LogEntry). Sayable es) (sym all) (typed r p k a t, ok, next.sayable);
            written = (λ i. bytes i ++ bytes_recorded (after i) more)
                ∙ ap (λ (l : List ℕ). entry_line e ++ l) next.written
                ∙ sym (ap log_text all);
          }
      | refused said bytes after ↦
          let entries : entry_if_served (recorded_by r e room) e ≡ [] = if_no _ _ said in
          let next : Recorded p r more = recorded_from more r p k ts in
          let all : entries_recorded r ((a, room) ∷ more) ≡ entries_recorded r more
          = (λ i. entries i ++ entries_recorded (after i) more) in
          record {
            history = subst (λ (es : List LogEntry). IsHistory p es) (sym all) next.history;
            sayable = subst (λ (es : List LogEntry). Sayable es) (sym all) next.sayable;
            written = (λ i. bytes i ++ bytes_recorded (after i) more) ∙ next.written ∙ sym (ap log_text all);
          }
    ]

pub recorded_begun : (form : List ℕ) → AreBytes form → (asked : List (Asked × ℕ)) → AreTyped asked
    → Recorded (begun_at form) (recorder_begun form) asked
recorded_begun form bytes asked t =
    recorded_from asked (recorder_begun form) (begun_at form)
    (record { file = refl; lines = refl; sum = refl; few = omega arith; within = crc32_of_within form bytes })
    t
