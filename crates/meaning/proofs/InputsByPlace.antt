-- Pairs of characters by their places: the inputs for which they stand.
-- Assumes nothing.
use Rattle.std.proofs.Common.{ℕ, zero, suc, ◌+◌, ◌*◌, ◌<◌, ◌≡◌, refl, ap, ◌∙◌, List, [], ◌∷◌, arith, length}
use Rattle.std.proofs.Common.{◌/◌, ◌≤◌, map, slice_index_or, take, length-take, get_or-take, if◌then◌else◌, nat_lt}
use Rattle.std.specs.Simd.{first_chunks}
use Rattle.text.proofs.Choices.{if_by}
use Rattle.words.specs.Sources.{is_same_input}
use Rattle.words.specs.declared.input.Input.{Input}
use Rattle.words.proofs.SourcesFollowed.{same_input_is_one}
use Rattle.meaning.specs.SetUpInputs.{input_of_pair, pair_input, inputs_of_pairs, index_in}

-- by pairs as std cuts them
map-first_chunks : (k : ℕ) (l : List ℕ) → 2 * k ≤ length l → length l < 2 * k + 2
    → map pair_input (first_chunks 2 k l) ≡ inputs_of_pairs l
unfolding inputs_of_pairs
map-first_chunks zero [] m h = refl
map-first_chunks zero (a ∷ []) m h = refl
map-first_chunks zero (a ∷ b ∷ l) m h = absurd (omega arith)
map-first_chunks (suc k) [] m h = absurd (omega arith)
map-first_chunks (suc k) (a ∷ []) m h = absurd (omega arith)
map-first_chunks (suc k) (a ∷ b ∷ l) m h =
    ap (λ (t : List Input). input_of_pair a b ∷ t) (map-first_chunks k l (omega arith) (omega arith))

pub named_in_pairs : (l : List ℕ) (pairs : List (List ℕ)) → pairs ≡ first_chunks 2 (length l / 2) l
    → map pair_input pairs ≡ inputs_of_pairs l
named_in_pairs l pairs e = ap (map pair_input) e ∙ map-first_chunks (length l / 2) l (omega arith) (omega arith)

-- twice k, in a form that computes by k
abbrev twice : ℕ → ℕ
twice zero = zero
twice (suc k) = suc (suc (twice k))

twice_is : (k : ℕ) → twice k ≡ 2 * k
twice_is zero = refl
twice_is (suc k) = omega (arith, twice_is k)

named_at : (k : ℕ) (l : List ℕ) (d : Input) → suc (twice k) < length l
    → slice_index_or (inputs_of_pairs l) k d
    ≡ input_of_pair (slice_index_or l (twice k) 0) (slice_index_or l (suc (twice k)) 0)
unfolding inputs_of_pairs
named_at k [] d h = absurd (omega arith)
named_at k (a ∷ []) d h = absurd (omega arith)
named_at zero (a ∷ b ∷ l) d h = refl
named_at (suc k) (a ∷ b ∷ l) d h = named_at k l d (omega arith)

named_long : (k : ℕ) (l : List ℕ) → length l ≡ twice k → length (inputs_of_pairs l) ≡ k
unfolding inputs_of_pairs
named_long zero [] h = refl
named_long zero (a ∷ l) h = absurd (omega arith)
named_long (suc k) [] h = absurd (omega arith)
named_long (suc k) (a ∷ []) h = absurd (omega arith)
named_long (suc k) (a ∷ b ∷ l) h = ap suc (named_long k l (omega arith))

module _ (l : List ℕ) where
  pub input_at_place : (k : ℕ) (d : Input) → 2 * k + 1 < length l
      → slice_index_or (inputs_of_pairs l) k d
      ≡ input_of_pair (slice_index_or l (2 * k) 0) (slice_index_or l (2 * k + 1) 0)
  input_at_place k d h = grind (arith, twice_is, named_at)

  pub inputs_counted : (k : ℕ) → length l ≡ 2 * k → length (inputs_of_pairs l) ≡ k
  inputs_counted k h = named_long k l (omega (arith, twice_is k))

-- the input of a pair in use is that of the array's pair
module _ (l : List ℕ) (count k : ℕ) (h : k < count) (room : 2 * k + 1 < length l) where
  pub input_in_use : (d : Input)
      → slice_index_or (inputs_of_pairs (take (2 * count) l)) k d
      ≡ input_of_pair (slice_index_or l (2 * k) 0) (slice_index_or l (2 * k + 1) 0)
  input_in_use d = grind (arith, get_or-take, input_at_place, length-take)

-- the input at the place that is found is the one sought
pub found_at_place : (i d : Input) (is : List Input) → index_in i is < length is →
    slice_index_or is (index_in i is) d ≡ i
unfolding index_in
found_at_place i d [] = λ h. absurd (omega arith)
found_at_place i d (x ∷ is) =
    if_by (λ (k : ℕ). k < length (x ∷ is) → slice_index_or (x ∷ is) k d ≡ i) (is_same_input x i)
    (λ e h. same_input_is_one x i e)
    (λ e h. found_at_place i d is (omega arith))

-- the input of the pair at a place, and past them the one given
pub paired_at : (pairs : List (List ℕ)) (k : ℕ) (d : Input)
    → slice_index_or (map pair_input pairs) k d
    ≡ (if nat_lt k (length pairs) then pair_input (slice_index_or pairs k []) else d)
paired_at [] zero d = refl
paired_at [] (suc k) d = grind arith
paired_at (p ∷ pairs) zero d = grind arith
paired_at (p ∷ pairs) (suc k) d = grind (arith, paired_at pairs k d)
