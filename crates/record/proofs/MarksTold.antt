-- What the enabled marks of a legal record tell, and how they are shown (RULES, Lamps): all raised at a set-up, and one
-- replaced.
-- Assumes nothing.
use Rattle.std.specs.List.{list_all}
use Rattle.std.proofs.Common.{ℕ, ◌-◌, ◌≤◌, ◌<◌, ◌≡◌, refl, ap, subst, Bool, true, false, List}
use Rattle.std.proofs.Common.{arith, length, take, drop, set, replicate, length-set, drop-set-lt, length-take-le}
use Rattle.std.proofs.lemmas.List.{length-replicate, take-replicate}
use Rattle.text.specs.Flags.{is_flag, is_lowered, flag_of}
use Rattle.text.specs.Rooms.{filled_room}
use Rattle.text.proofs.FlagsTold.{flag_legal}
use Rattle.text.proofs.RoomsTold.{kept_used}
use Rattle.text.proofs.Scanning.{list_all-append, list_all-set, list_all-replicate}
use Rattle.record.specs.Limits.{lamps_most}
use Rattle.record.specs.Rules.{is_marks}
use Rattle.record.specs.Record.{all_marks}

module _ (n : ℕ) (ms : List ℕ) where
  module _ (legal : is_marks n ms ≡ true) where
    pub marks_long : length ms ≡ lamps_most
    unfolding is_marks
    marks_long = grind (arith, legal)

    pub marks_past : list_all is_lowered (drop n ms) ≡ true
    unfolding is_marks
    marks_past = grind (arith, legal)

    pub marks_flags : list_all is_flag ms ≡ true
    unfolding is_marks
    marks_flags = grind (arith, legal)

    pub front_many : n ≤ lamps_most → length (take n ms) ≡ n
    front_many few = length-take-le n ms (omega (arith, marks_long))

  pub marks_shown : length ms ≡ lamps_most → list_all is_lowered (drop n ms) ≡ true → list_all is_flag ms ≡ true
      → ((n ≡ 0 → ⊥) → list_all is_lowered ms ≡ false) → is_marks n ms ≡ true
  unfolding is_marks
  marks_shown long past flags one = grind (arith, long, past, flags, one)

one_set : (n : ℕ) → (n ≡ 0 → ⊥) → list_all is_lowered (all_marks n) ≡ false
unfolding all_marks
one_set n h = grind arith

-- one mark replaced, where one is left
pub marked_legal : (n : ℕ) (ms : List ℕ) (k : ℕ) (m : Bool) → is_marks n ms ≡ true → k < n
    → list_all is_lowered (set ms k (flag_of m)) ≡ false → is_marks n (set ms k (flag_of m)) ≡ true
marked_legal n ms k m legal inside left =
    let flags = list_all-set is_flag ms k (flag_of m) (marks_flags n ms legal) (flag_legal m) in
    grind (arith, marks_shown, length-set, marks_long, drop-set-lt, marks_past, flags)

-- ---- all set

module _ (n : ℕ) (few : n ≤ lamps_most) where
  pub all_marks_legal : is_marks n (all_marks n) ≡ true
  unfolding all_marks
  all_marks_legal =
      let many : length (replicate n 1) ≡ n = length-replicate n 1 in
      let t = kept_used is_lowered 0 lamps_most (λ ms. true) (replicate n 1) (omega (arith, many)) refl refl in
      let room = filled_room 0 lamps_most (replicate n 1) in
      let past = subst (λ (m : ℕ). list_all is_lowered (drop m room) ≡ true) many t.clear in
      let flags = list_all-append is_flag (replicate n 1) (replicate (lamps_most - length (replicate n 1)) 0)
      (list_all-replicate is_flag n 1 refl) (list_all-replicate is_flag (lamps_most - length (replicate n 1)) 0 refl) in
      marks_shown n (all_marks n) t.long past flags (one_set n)

  pub marks_kept : filled_room 0 lamps_most (take n (replicate lamps_most 1)) ≡ all_marks n
  unfolding all_marks
  marks_kept = ap (filled_room 0 lamps_most) (take-replicate n lamps_most 1 few)
