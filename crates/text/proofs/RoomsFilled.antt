-- How a cleared room is filled from its start: one item more, where there is room for it.
--   IsCopied x room s l i    the array l holds the first i items of s, and x after them
-- Assumes nothing.
use Rattle.std.proofs.Common.{ℕ, ◌+◌, ◌≤◌, ◌<◌, ◌≡◌, refl, ap, ◌∙◌, List, [], ◌∷◌, ◌++◌, arith, set, length}
use Rattle.std.proofs.Common.{slice_index_or, take, length-append, length-take-le, append_assoc, replicate, take_all}
use Rattle.std.proofs.lemmas.List.{set_at}
use Rattle.std.proofs.Math.Seq.{take-suc}
use native.Mathlib.Numerals.{unary_clauses}
use Rattle.text.specs.Rooms.{filled_room}

pub set-filled_room : {A : Type 0} (x : A) (room : ℕ) (items : List A) (a : A) → length items < room
    → set (filled_room x room items) (length items) a ≡ filled_room x room (items ++ (a ∷ []))
set-filled_room x room items a h = grind (arith, set_at, append_assoc, length-append)

-- by a loop, item by item
module _ {A : Type 0} (x : A) (room : ℕ) (s : List A) where
  pub record IsCopied (l : List A) (i : ℕ) : Type 0 where
    pub inside : i ≤ length s
    pub stored : l ≡ filled_room x room (take i s)

  pub none_copied : IsCopied (replicate room x) 0
  none_copied = record { inside = omega arith; stored = simp unary_clauses refl }

  module _ (fits : length s ≤ room) {l : List A} {i : ℕ} (p : IsCopied l i) where
    pub one_copied : {a : A} → i < length s → a ≡ slice_index_or s i x → IsCopied (set l i a) (i + 1)
    one_copied {a} h e = grind (arith, length-take-le, take-suc, set-filled_room)

    pub all_copied : length s ≤ i → l ≡ filled_room x room s
    all_copied h = p.stored ∙ ap (filled_room x room) (take_all i s h)
