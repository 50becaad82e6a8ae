-- What holds of each number below n, by one test of them all that the checker computes.
--   all_below f n     the test f passes at each number below n
-- Assumes nothing.
use Rattle.std.proofs.Common.{ℕ, zero, suc, ◌<◌, ◌≡◌, refl, subst, Bool, true, false, ◌&&◌, arith, nat_lt, ltb-true}
use Rattle.std.proofs.Common.{ltb-false}
use Rattle.text.proofs.Choices.{both_left, both_right}

abbrev pub all_below : (ℕ → Bool) → ℕ → Bool
all_below f zero = true
all_below f (suc n) = f n && all_below f n

pub each_below : (f : ℕ → Bool) (n : ℕ) → all_below f n ≡ true → (k : ℕ) → k < n → f k ≡ true
each_below f zero t k h = absurd (omega arith)
each_below f (suc n) t k h =
    by (nat_lt k n) refl (λ h. each_below f n (both_right (f n) (all_below f n) t) k h)
    (both_left (f n) (all_below f n) t)
  where
    by : (b : Bool) → nat_lt k n ≡ b → (k < n → f k ≡ true) → f n ≡ true → f k ≡ true
    by true e earlier last = earlier (ltb-true k n e)
    by false e earlier last =
        let same : n ≡ k = omega (arith, ltb-false k n e) in
        subst (λ (m : ℕ). f m ≡ true) same last
