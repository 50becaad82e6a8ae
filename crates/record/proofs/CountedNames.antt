-- Names that stand in a row, each after its length in one byte (RULES, Stored form).
--   CountedTo n s left i      a loop has passed i names of the n in s, and `left` is what follows them
-- Assumes nothing.
use Rattle.std.proofs.Common.{◌≡◌, ℕ, zero, suc, ◌+◌, ◌-◌, ◌<◌, ◌≤◌, List, [], ◌∷◌, ◌++◌, length, take, drop, refl}
use Rattle.std.proofs.Common.{true, ◌&&◌, ◌==◌, ap, ◌∙◌, arith, add-one, slice_index_or, drop-cons}
use Rattle.std.proofs.Math.Seq.{take-append_seam, drop-append_seam}
use native.Mathlib.Numerals.{unary_clauses}
use Rattle.std.specs.List.{list_all}
use Rattle.words.specs.Bytes.{◌at◌}
use Rattle.words.specs.Texts.{is_input_name}
use Rattle.record.specs.Wanted.{counted_in}
use Rattle.record.specs.Rules.{are_names}

-- a row of names, by its first
pub counted_none : (s : List ℕ) → counted_in 0 s ≡ []
unfolding counted_in
counted_none s = refl

pub counted_first : (n : ℕ) (t rest : List ℕ) → counted_in (suc n) (length t ∷ (t ++ rest)) ≡ t ∷ counted_in n rest
unfolding counted_in
counted_first n t rest = (λ j. take-append_seam t rest j ∷ ap (counted_in n) (drop-append_seam t rest) j)

pub counted_many : (n : ℕ) (s : List ℕ) → length (counted_in n s) ≡ n
unfolding counted_in
counted_many zero s = refl
counted_many (suc n) s = ap suc (counted_many n (drop (suc (s at 0)) s))

pub as_many_counted : (m n : ℕ) (s : List ℕ) → are_names m (counted_in n s) ≡ true → m ≡ n
unfolding are_names
as_many_counted m n s e = grind (arith, e, counted_many n s)

pub counted_named : (k n : ℕ) (s : List ℕ)
    → are_names k (counted_in n s) ≡ (n == k && list_all is_input_name (counted_in n s))
unfolding are_names
counted_named k n s = grind (arith, counted_many n s)

-- a loop over them
pub record CountedTo (n : ℕ) (s left : List ℕ) (i : ℕ) : Type 0 where
  pub inside : i ≤ n
  pub rest : drop i (counted_in n s) ≡ counted_in (n - i) left

pub none_passed : (n : ℕ) (s : List ℕ) → CountedTo n s s 0
none_passed n s = record { inside = omega arith; rest = simp unary_clauses refl }

module _ {n : ℕ} {s left : List ℕ} {i : ℕ} (p : CountedTo n s left i) (more : i < n) where
  here : drop i (counted_in n s) ≡ slice_index_or (counted_in n s) i [] ∷ drop (i + 1) (counted_in n s)
  here = rw (add-one, drop-cons (counted_in n s) i [] (omega (arith, counted_many n s))) refl

  cut : drop i (counted_in n s)
      ≡ take (left at 0) (drop 1 left) ∷ counted_in (n - (i + 1)) (drop (suc (left at 0)) left)
  unfolding counted_in
  cut = let one : n - i ≡ suc (n - (i + 1)) = omega arith in p.rest ∙ ap (λ (k : ℕ). counted_in k left) one

  pub name_here : slice_index_or (counted_in n s) i [] ≡ take (left at 0) (drop 1 left)
  name_here = cc (here, cut)

  pub one_passed : CountedTo n s (drop (suc (left at 0)) left) (i + 1)
  one_passed = record { inside = omega arith; rest = cc (here, cut) }
