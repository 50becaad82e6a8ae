-- A list read so far, and what follows; and a list written so far, and the room for what is to come.
-- Assumes nothing.
use Rattle.std.proofs.Common.{ℕ, ◌≡◌, ◌<◌, ◌≤◌, ◌+◌, ◌-◌, List, [], ◌∷◌, ◌++◌, length, take, drop, append_assoc}
use Rattle.std.proofs.Common.{arith, slice_index_or, Option, Some}
use Rattle.std.specs.List.{flat_map}
use Rattle.std.proofs.Math.Seq.{drop-cons}
use Rattle.std.proofs.lemmas.List.{length-append, take_all}
use Prim.Native.Char.{code}
use Rattle.words.specs.Codec.{◌>>=◌}
use Rattle.words.specs.Joined.{list_read}

abbrev pub after_those : {A : Type 0} → List A → Option (List A) → Option (List A)
after_those xs o = o >>= λ ys. Some (xs ++ ys)

after_next : {A : Type 0} (xs : List A) (x : A) (o : Option (List A))
    → after_those xs (o >>= λ ys. Some (x ∷ ys)) ≡ after_those (xs ++ x ∷ []) o
after_next xs x o = grind (arith, append_assoc)

module _ {A : Type 0} (read : List ℕ → Option (A × List ℕ)) (xs : List A) (n k : ℕ) (s : List ℕ) (h : k < n) where
  -- one more thing, and the space behind it
  pub list_step : (x : A) (after : List ℕ) → read s ≡ Some (x, after) → 1 ≤ length after → slice_index_or after 0 0 ≡ 32
      → after_those xs (list_read read (n - k) s)
      ≡ after_those (xs ++ x ∷ []) (list_read read (n - (k + 1)) (take (length after - 1) (drop 1 after)))
  list_step x after h g e = grind (arith, after_next, take_all)

-- what is still to come has room
pub room_next : {A : Type 0} (text : A → List ℕ) (out : List ℕ) (xs : List A) (i : ℕ) (x : A) (old all : List ℕ)
    {most : ℕ}
    → length old + length all ≤ most → i < length xs → x ≡ slice_index_or xs i x
    → out ++ flat_map (λ y. code " " ∷ text y) (drop i xs) ≡ old ++ all
    → length out + (1 + length (text x)) ≤ most
room_next {A} text out xs i x old all m h same e = search (arith, drop-cons, length-append, length-append old all)
