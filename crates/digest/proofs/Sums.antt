-- The words of a block with the constants of their operations added, and an operation by its sum.
--   SumsBelow n xs t s    s has them at the places below n, t being the constants
-- Assumes nothing.
use Rattle.std.proofs.Common.{◌≡◌, ℕ, ◌+◌, ◌*◌, ◌%◌, ◌<◌, ◌≤◌, List, length, arith, slice_index, slice_set, ap, ◌∙◌}
use Rattle.std.proofs.lemmas.List.{get_or-set_same, get_or-set_other}
use Rattle.digest.specs.Words.{◌plus◌, ◌<<<◌, word_at}
use Rattle.digest.specs.Rounds.{word_number, constant_of, shift_of, function_of, operation, operated_with}
use Rattle.digest.specs.Sums.{operation_index, AreConstants, AreSums}
use Rattle.digest.specs.declared.Buffer.{Buffer}
use Rattle.digest.proofs.Tables.{word_number_in_block}

abbrev pub SumsBelow : ℕ → List ℕ → List ℕ → List ℕ → Type 0
SumsBelow n xs t s = (k : ℕ) → k < n → slice_index s k ≡ word_at xs (4 * (k % 16)) plus slice_index t k

module _ (xs t s : List ℕ) where
  pub one_more_sum : (r k w v : ℕ) → k < 16 → 16 * r + k < length s → w ≡ word_at xs (4 * k)
      → v ≡ w plus slice_index t (16 * r + k) → SumsBelow (16 * r + k) xs t s
      → SumsBelow (16 * r + (k + 1)) xs t (slice_set s (16 * r + k) v)
  one_more_sum r k w v small room ew ev below j h =
      let its_word : (16 * r + k) % 16 ≡ k = omega arith in
      grind (arith, ew, ev, its_word, below, get_or-set_same, get_or-set_other)

  pub all_summed : (n : ℕ) → 64 ≤ n → AreConstants t → SumsBelow n xs t s → AreSums xs s
  unfolding operation_index
  all_summed n all constants below = record {
    placed = λ i h.
        let in_block : word_number i < 16 = word_number_in_block i h in
        let its_word : operation_index i % 16 ≡ word_number i = omega arith in
        below (operation_index i) (omega arith)
        ∙ ap (λ (k : ℕ). word_at xs (4 * k) plus slice_index t (operation_index i)) its_word
        ∙ ap (λ (c : ℕ). word_at xs (4 * word_number i) plus c) (constants.placed i h);
  }

-- the order of a sum does not count
in_order : (a x t early late f : ℕ) → early + late ≡ f
    → a plus (x plus t) plus early plus late ≡ a plus f plus x plus t
in_order a x t early late f h = omega (arith, h)

-- an operation by its sum, with its function in two parts
module _ (xs s : List ℕ) (i : ℕ) (q : Buffer) (sums : AreSums xs s) (h : i < 64) where
  pub operated : (early late a r b : ℕ) → early + late ≡ function_of i q.b q.c q.d
      → a ≡ q.a plus slice_index s (operation_index i) plus early plus late → r ≡ a <<< shift_of i → b ≡ q.b plus r
      → record { a = q.d; b = b; c = q.b; d = q.c } ≡ operation xs i q
  unfolding operation operated_with
  operated early late a r b ef ea er eb =
      let sum = in_order q.a (word_at xs (4 * word_number i)) (constant_of i) early late _ ef in
      let at_its_place = sums.placed i h in
      cc
