-- What a room tells of the list in it, and how it is filled.
-- Assumes nothing.
use Rattle.std.specs.List.{list_all}
use Rattle.std.proofs.Common.{ℕ, suc, ◌+◌, ◌-◌, ◌≤◌, ◌<◌, ◌≡◌, refl, sym, ap, ◌∙◌, Bool, true, List, [], ◌∷◌}
use Rattle.std.proofs.Common.{◌++◌, arith, add-one, set, length-set, length, slice_index_or, take, drop}
use Rattle.std.proofs.Common.{drop-cons, drop-set-lt, take-suc-set, get_or-drop, length-take-le, eq-eqb}
use Rattle.std.proofs.lemmas.Grind.{common_steps}
use Rattle.std.proofs.lemmas.List.{take-append-le}
use Rattle.std.proofs.Math.ListN.{get_or-eq_default}
use Rattle.std.proofs.Math.Seq.{take-append_seam}
use native.Mathlib.Numerals.{unary_clauses}
use Rattle.text.specs.Rooms.{filled_room}
use Rattle.text.proofs.RoomsTold.{kept_used}
use Rattle.text.proofs.RoomsFilled.{set-filled_room}
use Rattle.text.proofs.Scanning.{list_all_at, list_all_by_place}
use Rattle.record.specs.Record.{zeros, in_room}
use Rattle.record.specs.Legal.{is_zero}
use Rattle.record.specs.Facts.{Fills}

module _ (room : ℕ) (rule : List ℕ → Bool) (s : List ℕ) (n : ℕ) (k : Fills room rule s n) where
  pub kept_length : length (take n s) ≡ n
  kept_length = length-take-le n s (omega (arith, k.long, k.inside))

  -- unused room is zero at each place, and past the array's end `slice_index_or` says zero too
  pub kept_zero : (i : ℕ) → n ≤ i → slice_index_or s i 0 ≡ 0
  kept_zero i l =
      grind (
        arith,
        common_steps,
        get_or-drop n s (i - n) 0,
        list_all_at is_zero (drop n s) 0 k.clear (i - n),
        get_or-eq_default s 0 {n = i},
      )

-- unused room, shown place by place
pub clear_by_place : (s : List ℕ) (n : ℕ) → ((i : ℕ) → n ≤ i → slice_index_or s i 0 ≡ 0) →
    list_all is_zero (drop n s) ≡ true
clear_by_place s n h =
    list_all_by_place is_zero 0 (drop n s)
    (λ k l. eq-eqb (slice_index_or (drop n s) k 0) 0 (get_or-drop n s k 0 ∙ h (n + k) (omega arith)))

-- what fills a cleared room from its start is kept there
pub filled_take : (room : ℕ) (s : List ℕ) → take (length s) (in_room room s) ≡ s
unfolding in_room
filled_take room s = take-append_seam s (zeros (room - length s))

pub filled_kept : (room : ℕ) (rule : List ℕ → Bool) (s : List ℕ) → length s ≤ room → rule s ≡ true
    → Fills room rule (in_room room s) (length s)
unfolding in_room
filled_kept room rule s fits h = kept_used is_zero 0 room rule s fits refl h

pub kept_in_room : (room : ℕ) (s : List ℕ) → filled_room 0 room s ≡ in_room room s
unfolding in_room
kept_in_room room s = refl

-- an empty list leaves the room cleared
pub room_empty : (room : ℕ) → in_room room [] ≡ zeros room
unfolding in_room
room_empty room = simp unary_clauses refl

-- nothing is kept in a cleared room, and one element more where there is room for it
pub nothing_kept : (room : ℕ) (rule : List ℕ → Bool) → rule [] ≡ true → Fills room rule (zeros room) 0
nothing_kept room rule h = grind (arith, room_empty room, filled_kept room rule [] (omega arith) h)

pub one_more_kept : (room : ℕ) (rule : List ℕ → Bool) (s : List ℕ) (n b : ℕ) → Fills room rule s n → n < room
    → rule (take n s ++ (b ∷ [])) ≡ true → Fills room rule (set s n b) (n + 1)
one_more_kept room rule s n b k l h =
    let inside : n < length s = omega (arith, k.long) in
    let rest : drop (suc n) (set s n b) ≡ drop (suc n) s = drop-set-lt (suc n) s n b (omega arith) in
    record {
      long = length-set s n b ∙ k.long;
      inside = omega arith;
      clear = rw (add-one n, rest) (grind (arith, ap (list_all is_zero) (sym (drop-cons s n 0 inside)) ∙ k.clear));
      follows = rw (add-one n, take-suc-set s n b inside) h;
    }

-- one byte more, where there is room for it
pub room_more : (room : ℕ) (s : List ℕ) (b : ℕ) → length s < room
    → set (in_room room s) (length s) b ≡ in_room room (s ++ (b ∷ []))
unfolding in_room
room_more = set-filled_room 0

pub room_first : (room : ℕ) (s : List ℕ) (n : ℕ) → n ≤ length s → take n (in_room room s) ≡ take n s
unfolding in_room
room_first room s n h = take-append-le n s (zeros (room - length s)) h
