-- What `is_same_by` says of two lists: the one, each of its bytes turned, is the other.
-- Assumes nothing.
use Rattle.std.proofs.Common.{ℕ, ◌≡◌, refl, sym, ap, ◌∙◌, true, List, [], ◌∷◌, map, map-id, ◌==◌, eqb-true}
use Rattle.std.proofs.Common.{eq-eqb}
use Rattle.text.specs.Scans.{is_same_by, itself}
use Rattle.text.proofs.Choices.{both, both_left, both_right}

pub same_turned : (f : ℕ → ℕ) (s t : List ℕ) → is_same_by f s t ≡ true → map f s ≡ t
same_turned f [] [] e = refl
same_turned f [] (y ∷ ys) e = cc
same_turned f (x ∷ xs) [] e = cc
same_turned f (x ∷ xs) (y ∷ ys) e =
    (λ i. eqb-true (f x) y (both_left (f x == y) (is_same_by f xs ys) e) i
    ∷ same_turned f xs ys (both_right (f x == y) (is_same_by f xs ys) e) i)

-- no byte turned
pub same_is : (s t : List ℕ) → is_same_by itself s t ≡ true → s ≡ t
same_is s t e = sym (map-id s) ∙ same_turned itself s t e

pub turned_same : (f : ℕ → ℕ) (s t : List ℕ) → map f s ≡ t → is_same_by f s t ≡ true
turned_same f s t e = ap (is_same_by f s) (sym e) ∙ of_map s
  where
    of_map : (s : List ℕ) → is_same_by f s (map f s) ≡ true
    of_map [] = refl
    of_map (x ∷ xs) = both (eq-eqb (f x) (f x) refl) (of_map xs)
