-- The marks of the lamps (RULES, Lamps): in their room, and in bytes, read back and written again.
--   AreMarks n bytes      what bytes that are marks of n lamps tell
-- Assumes nothing.
use Rattle.std.specs.List.{list_all}
use Rattle.std.proofs.Common.{ℕ, ◌-◌, ◌≤◌, ◌≡◌, ◌↔◌, IsTrue, Bool, true, false, List, [], ◌∷◌, length}
use Rattle.std.proofs.Common.{map, take, drop, replicate, slice_index_or, refl, sym, ap, ◌∙◌, arith, length-drop}
use Rattle.std.proofs.Common.{take-append-drop}
use Rattle.std.proofs.lemmas.Grind.{common_steps}
use Rattle.std.proofs.lemmas.List.{length-map, map-append, length-replicate, take-replicate, take-map}
use Rattle.std.proofs.Math.Seq.{take-append_seam, length-take-le}
use Rattle.text.specs.Flags.{is_flag, is_lowered, is_raised, flag_of}
use Rattle.text.specs.Rooms.{filled_room}
use Rattle.text.proofs.FlagsTold.{flags_told, flags_legal, flags_again, raised_many}
use Rattle.text.proofs.FlagsTold.{raised_replicate, flags_replicate}
use Rattle.record.specs.Limits.{lamps_most}
use Rattle.record.specs.Wanted.{Wanted}
use Rattle.record.specs.Rules.{is_marks}
use Rattle.record.specs.Updates.{with_own, with_marks}
use Rattle.record.specs.Record.{all_marks, start_device}
use Rattle.record.specs.SetUp.{is_set_up}
use Rattle.record.specs.declared.types.Setting.TheVariants.{Lamps}
use Rattle.record.proofs.MarksTold.{marks_long, marks_past, marks_flags, front_many, all_marks_legal, marks_kept}
use Rattle.record.proofs.OutOfRange.{each_in_range}
use Rattle.record.proofs.Rules.{lamps_few}
use Rattle.record.proofs.Started.{started_marks}
use Rattle.stored.specs.Loading.{mark_room, is_marks_of, are_marks, started_with}

-- ---- in their room

none_are : (fs : List ℕ) → list_all is_lowered fs ≡ true → fs ≡ replicate (length fs) 0
none_are [] e = refl
none_are (f ∷ fs) e = grind (arith, e, none_are fs)

-- flags are kept as they are
pub flags_in_room : (fs : List ℕ) → list_all is_flag fs ≡ true
    → filled_room 0 lamps_most fs ≡ mark_room (map is_raised fs)
unfolding mark_room
flags_in_room fs e = ap (filled_room 0 lamps_most) (sym (flags_again fs e))

room_seen : (ms : List Bool) → map is_raised (mark_room ms) ≡ filled_room false lamps_most ms
unfolding mark_room
room_seen ms = grind (arith, map-append, raised_replicate, flags_told, length-map)

pub room_front : (ms : List Bool) → take (length ms) (map is_raised (mark_room ms)) ≡ ms
room_front ms =
    ap (take (length ms)) (room_seen ms) ∙ take-append_seam ms (replicate (lamps_most - length ms) false)

in_room_at : (ms : List Bool) (k : ℕ)
    → slice_index_or (filled_room false lamps_most ms) k false ≡ slice_index_or ms k false
in_room_at ms k = grind (arith, common_steps)

pub slice_index_or-mark_room : (ms : List Bool) (k : ℕ) →
    slice_index_or (map is_raised (mark_room ms)) k false ≡ slice_index_or ms k false
slice_index_or-mark_room ms k =
    ap (λ (l : List Bool). slice_index_or l k false) (room_seen ms) ∙ in_room_at ms k

-- as a legal record has them
module _ (n : ℕ) (fs : List ℕ) (legal : is_marks n fs ≡ true) (few : n ≤ lamps_most) where
  pub front_again : map flag_of (take n (map is_raised fs)) ≡ take n fs
  front_again = sym (take-map flag_of n (map is_raised fs)) ∙ ap (take n) (flags_again fs (marks_flags n fs legal))

  pub front_seen : length (take n (map is_raised fs)) ≡ n
  front_seen = length-take-le n (map is_raised fs) (omega (arith, raised_many fs, marks_long n fs legal, few))

  rest_none : filled_room 0 lamps_most (take n fs) ≡ fs
  rest_none =
      grind (
        arith,
        none_are (drop n fs) (marks_past n fs legal),
        take-append-drop n fs,
        length-drop n fs,
        marks_long n fs legal,
        front_many n fs legal few,
      )

  pub mark_room-take : mark_room (take n (map is_raised fs)) ≡ fs
  unfolding mark_room
  mark_room-take = ap (filled_room 0 lamps_most) front_again ∙ rest_none

-- all set
module _ (n : ℕ) (few : n ≤ lamps_most) where
  all_room : mark_room (replicate n true) ≡ all_marks n
  unfolding mark_room
  all_room =
      ap (filled_room 0 lamps_most) (flags_replicate n ∙ sym (take-replicate n lamps_most 1 few)) ∙ marks_kept n few

  pub all_are_marks : is_marks_of n (replicate n true) ≡ true
  all_are_marks = grind (arith, length-replicate, all_room, all_marks_legal)

pub started_with-replicate : (w : Wanted) → is_set_up w ≡ true
    → started_with w (replicate (length w.lamps) true) ≡ start_device w
started_with-replicate w ok =
    ap (λ (fs : List ℕ). with_own (start_device w) (with_marks (start_device w).own fs))
    (all_room _ (lamps_few w.lamps (each_in_range w ok Lamps)) ∙ sym (started_marks w))

-- ---- in bytes

pub are_marks-map : (n : ℕ) (ms : List Bool) → are_marks n (map flag_of ms) ≡ is_marks_of n ms
are_marks-map n ms = grind (arith, flags_legal ms, ap (is_marks_of n) (flags_told ms))

pub record AreMarks (n : ℕ) (s : List ℕ) : Type 0 where
  pub each : list_all is_flag s ≡ true
  pub many : length s ≡ n
  pub legal : is_marks n (mark_room (map is_raised s)) ≡ true

pub marks_are : (n : ℕ) (s : List ℕ) → IsTrue (are_marks n s) ↔ AreMarks n s
marks_are n s = grind (arith, length-map)
