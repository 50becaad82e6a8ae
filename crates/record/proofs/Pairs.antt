-- A list tested pair by pair, as std cuts it; and that inputs which are new name inputs.
--   pair_passes f p     the two elements of p pass the test f
-- Assumes nothing.
use Rattle.std.specs.List.{list_all}
use Rattle.std.specs.Simd.{first_chunks}
use Rattle.std.proofs.Common.{ℕ, zero, suc, ◌+◌, ◌*◌, ◌/◌, ◌%◌, ◌<◌, ◌≡◌, refl, Bool, true, ◌&&◌, List, [], ◌∷◌, arith}
use Rattle.std.proofs.Common.{length, slice_index_or, ◌==◌, nat_le}
use Rattle.text.proofs.Choices.{both_right}
use Rattle.words.specs.Inputs.{is_input_text}
use Rattle.record.specs.Rules.{are_pairs, is_new_input, are_named, is_inputs}
use Rattle.record.specs.Limits.{is_class_number, input_room}

module _ (f : ℕ → ℕ → Bool) where
  abbrev pub pair_passes : List ℕ → Bool
  pair_passes p = f (slice_index_or p 0 0) (slice_index_or p 1 0)

  pub are_pairs-first_chunks : (k r : ℕ) (s : List ℕ) → length s ≡ 2 * k + r → r < 2
      → are_pairs (λ a b later. f a b) s ≡ (list_all pair_passes (first_chunks 2 k s) && r == 0)
  unfolding are_pairs
  are_pairs-first_chunks zero r [] e h = grind arith
  are_pairs-first_chunks zero r (a ∷ []) e h = grind arith
  are_pairs-first_chunks zero r (a ∷ b ∷ s) e h = absurd (omega arith)
  are_pairs-first_chunks (suc k) r [] e h = absurd (omega arith)
  are_pairs-first_chunks (suc k) r (a ∷ []) e h = absurd (omega arith)
  are_pairs-first_chunks (suc k) r (a ∷ b ∷ s) e h = grind (arith, are_pairs-first_chunks k r s (omega arith) h)

pub named_in_pairs : (k : ℕ) (s : List ℕ) (pairs : List (List ℕ)) → pairs ≡ first_chunks 2 (length s / 2) s
    → are_named k s ≡ (list_all (pair_passes (is_input_text k)) pairs && length s % 2 == 0)
unfolding are_named
named_in_pairs k s pairs e = grind (arith, e, are_pairs-first_chunks (is_input_text k) (length s / 2) (length s % 2) s)

-- inputs that are new name inputs
module _ (k : ℕ) where
  pub new_named : (s : List ℕ) → are_pairs (is_new_input k) s ≡ true → are_named k s ≡ true
  unfolding are_named are_pairs
  new_named [] h = refl
  new_named (a ∷ []) h = h
  new_named (a ∷ b ∷ s) h =
      grind (arith, new_named s (both_right (is_new_input k a b s) (are_pairs (is_new_input k) s) h))

  -- and so that they name inputs may be tested first
  pub inputs_named_first : (s : List ℕ) → is_inputs k s
      ≡ (are_named k s && is_class_number k && nat_le 2 (length s) && nat_le (length s) input_room
      && are_pairs (is_new_input k) s)
  unfolding is_inputs
  inputs_named_first s = grind (arith, new_named s)
