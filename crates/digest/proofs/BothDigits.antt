-- What the tables have of a byte.
-- Assumes nothing.
use Rattle.std.proofs.Common.{ℕ, zero, suc, ◌+◌, ◌/◌, ◌%◌, ◌<◌, ◌≡◌, arith, ap, ◌∙◌, List, slice_index_or}
use Rattle.digest.specs.Hex.{hex_digit}
use Rattle.digest.specs.BothDigits.{highs_of, lows_of}

highs_at : (k n i : ℕ) → i < n → slice_index_or (highs_of k n) i 0 ≡ hex_digit ((k + i) / 16 % 16)
unfolding highs_of
highs_at k zero i h = absurd (omega arith)
highs_at k (suc n) zero h = ap (λ (m : ℕ). hex_digit (m / 16 % 16)) (omega arith)
highs_at k (suc n) (suc i) h =
    let same : suc k + i ≡ k + suc i = omega arith in
    highs_at (suc k) n i (omega arith) ∙ ap (λ (m : ℕ). hex_digit (m / 16 % 16)) same

lows_at : (k n i : ℕ) → i < n → slice_index_or (lows_of k n) i 0 ≡ hex_digit ((k + i) % 16)
unfolding lows_of
lows_at k zero i h = absurd (omega arith)
lows_at k (suc n) zero h = ap (λ (m : ℕ). hex_digit (m % 16)) (omega arith)
lows_at k (suc n) (suc i) h =
    let same : suc k + i ≡ k + suc i = omega arith in
    lows_at (suc k) n i (omega arith) ∙ ap (λ (m : ℕ). hex_digit (m % 16)) same

pub high_there : (n : ℕ) {t : List ℕ} → t ≡ highs_of 0 256 → n < 256 → slice_index_or t n 0 ≡ hex_digit (n / 16 % 16)
high_there n e h =
    let same : 0 + n ≡ n = omega arith in
    ap (λ (t : List ℕ). slice_index_or t n 0) e ∙ highs_at 0 256 n h ∙ ap (λ (m : ℕ). hex_digit (m / 16 % 16)) same

pub low_there : (n : ℕ) {t : List ℕ} → t ≡ lows_of 0 256 → n < 256 → slice_index_or t n 0 ≡ hex_digit (n % 16)
low_there n e h =
    let same : 0 + n ≡ n = omega arith in
    ap (λ (t : List ℕ). slice_index_or t n 0) e ∙ lows_at 0 256 n h ∙ ap (λ (m : ℕ). hex_digit (m % 16)) same
