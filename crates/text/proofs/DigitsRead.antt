-- The loop that reads digits, in any base: at i every byte passed is a digit, and v is their value.
--   ReadTo base worth is_one s v i    the loop has come to i with the value v; is_one is its test of a digit
-- Assumes nothing.
use Rattle.std.proofs.Common.{ℕ, ◌+◌, ◌*◌, ◌^◌, ◌<◌, ◌≤◌, ◌≡◌, ap, ◌∙◌, Bool, true, List, pow-suc, add-one, arith}
use Rattle.std.proofs.Common.{length, slice_index_or, drop, drop_of_length-le, drop-cons}
use Rattle.std.proofs.Math.Nat.{pow-le-pow_right}
use Rattle.text.specs.Bases.{value_in}
use Rattle.text.proofs.Bases.{value_grows}
use Rattle.text.proofs.Scanning.{Passed, one_passed}

module _ (base : ℕ) (worth : ℕ → ℕ) (is_one : ℕ → Bool) (s : List ℕ) where
  pub record ReadTo (v i : ℕ) : Type 0 where
    pub passed : Passed is_one s i
    pub value : value_in base worth 0 s ≡ value_in base worth v (drop i s)
    pub below : v < base ^ i

  module _ {v i : ℕ} (p : ReadTo v i) where
    pub one_read : i < length s → is_one (slice_index_or s i 0) ≡ true → worth (slice_index_or s i 0) < base
        → ReadTo (v * base + worth (slice_index_or s i 0)) (i + 1)
    one_read h e w = record {
      passed = one_passed is_one s 0 p.passed h e;
      value = p.value ∙ rw (add-one, drop-cons s i 0);
      below = rw (add-one, pow-suc) (value_grows base v (worth (slice_index_or s i 0)) (base ^ i) p.below w);
    }

    pub all_read : length s ≤ i → value_in base worth 0 s ≡ v
    all_read h = p.value ∙ ap (value_in base worth v) (drop_of_length-le s h)

    -- after at most n digits
    pub read_below : (n : ℕ) → 1 ≤ base → i ≤ n → v < base ^ n
    read_below n b h = omega (arith, p.below, pow-le-pow_right {n = base} b {i = i} {j = n} h)
