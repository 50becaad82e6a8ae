-- The test of a list of pairs, pair by pair.
-- Assumes nothing.
use Rattle.std.proofs.Common.{ℕ, zero, suc, ◌+◌, ◌*◌, ◌≤◌, ◌<◌, ◌≡◌, sym, ap, ◌∙◌, Bool, true, ◌&&◌, ⊎_elim, List, []}
use Rattle.std.proofs.Common.{◌∷◌, eq-or-lt_of_le, add-one, arith, length, slice_index_or, drop, drop_of_length-le}
use Rattle.std.proofs.Common.{drop-cons}
use Rattle.std.proofs.lemmas.Bool.{false≢true}
use Rattle.record.specs.Rules.{are_pairs}

-- a pair that is there, and a last element that has no partner
pub two_left : (s : List ℕ) (i : ℕ) → i + 1 < length s →
    drop i s ≡ slice_index_or s i 0 ∷ slice_index_or s (i + 1) 0 ∷ drop (i + 2) s
two_left s i h = grind (arith, add-one, drop-cons)

pub one_left : (s : List ℕ) (i : ℕ) → i < length s → length s ≤ i + 1 → drop i s ≡ slice_index_or s i 0 ∷ []
one_left s i h g = grind (arith, drop_of_length-le, drop-cons)

-- a list of pairs: what is left after k of them, the pair at k, and the length
module _ (f : ℕ → ℕ → List ℕ → Bool) (s : List ℕ) (h : are_pairs f s ≡ true) where
  here : (i : ℕ) → i + 1 < length s → are_pairs f (drop i s) ≡ true
      → (f (slice_index_or s i 0) (slice_index_or s (i + 1) 0) (drop (i + 2) s) && are_pairs f (drop (i + 2) s)) ≡ true
  unfolding are_pairs
  here i l e = ap (are_pairs f) (sym (two_left s i l)) ∙ e

  pub are_pairs-drop : (k : ℕ) → 2 * k ≤ length s → are_pairs f (drop (2 * k) s) ≡ true
  are_pairs-drop zero l = h
  are_pairs-drop (suc k) l = search (arith, here, here (2 * k) (omega arith) (are_pairs-drop k (omega arith)))

  pub pair_at : (k : ℕ) → 2 * k + 1 < length s
      → f (slice_index_or s (2 * k) 0) (slice_index_or s (2 * k + 1) 0) (drop (2 * k + 2) s) ≡ true
  pair_at k l = grind (arith, here (2 * k) l (are_pairs-drop k (omega arith)))

  pub pairs_even : (k : ℕ) → 2 * k ≤ length s → length s ≤ 2 * k + 1 → length s ≤ 2 * k
  unfolding are_pairs
  pairs_even k l m =
      ⊎_elim
      (λ (e : length s ≡ 2 * k + 1).
      absurd (false≢true
      (sym (ap (are_pairs f) (one_left s (2 * k) (omega arith) (omega arith))) ∙ are_pairs-drop k l)))
      (λ (e : length s < 2 * k + 1). omega arith)
      (eq-or-lt_of_le m)
