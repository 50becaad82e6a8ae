-- A number's digits, two at a time: what the tables have of two, ten of them, and those that there are.
--   last_of_ten k t   the last k of the ten bytes t
-- Assumes nothing.
use Rattle.std.proofs.Common.{ℕ, zero, suc, ◌+◌, ◌-◌, ◌/◌, ◌%◌, ◌^◌, ◌<◌, ◌≤◌, ◌≡◌, arith, refl, sym, ap, ◌∙◌}
use Rattle.std.proofs.Common.{pow-suc, subst}
use Rattle.std.proofs.Common.{List, [], ◌∷◌, ◌++◌, append_assoc, slice_index_or}
use Rattle.numbers.specs.Decimal.{last_digit, digits}
use Rattle.history.specs.Figures.{tens_of, ones_of, lowest}
use Rattle.lent.specs.Puts.{Puts}
use Rattle.lent.specs.declared.MemoryWriter.{MemoryWriter}
use Rattle.history.proofs.Writing.{digits_low, digits_high}

-- ---- the tables

tens_at : (k n i : ℕ) → i < n → slice_index_or (tens_of k n) i 0 ≡ last_digit ((k + i) / 10)
unfolding tens_of
tens_at k zero i h = absurd (omega arith)
tens_at k (suc n) zero h = omega arith
tens_at k (suc n) (suc i) h =
    let same : suc k + i ≡ k + suc i = omega arith in
    tens_at (suc k) n i (omega arith) ∙ ap (λ (m : ℕ). last_digit (m / 10)) same

ones_at : (k n i : ℕ) → i < n → slice_index_or (ones_of k n) i 0 ≡ last_digit (k + i)
unfolding ones_of
ones_at k zero i h = absurd (omega arith)
ones_at k (suc n) zero h = omega arith
ones_at k (suc n) (suc i) h =
    let same : suc k + i ≡ k + suc i = omega arith in
    ones_at (suc k) n i (omega arith) ∙ ap last_digit same

pub tens_there : (n i : ℕ) {t : List ℕ} → t ≡ tens_of 0 100 → i ≡ n % 100 → slice_index_or t i 0 ≡ last_digit (n / 10)
tens_there n i e h =
    ap (λ (t : List ℕ). slice_index_or t i 0) e ∙ tens_at 0 100 i (omega arith) ∙ omega arith

pub ones_there : (n i : ℕ) {t : List ℕ} → t ≡ ones_of 0 100 → i ≡ n % 100 → slice_index_or t i 0 ≡ last_digit n
ones_there n i e h =
    ap (λ (t : List ℕ). slice_index_or t i 0) e ∙ ones_at 0 100 i (omega arith) ∙ omega arith

-- ---- the digits that there are

-- as many as the power of ten above the number
digits_lowest : (k n : ℕ) → n < 2 ^ 32 → 10 ^ suc k ≤ n → n < 10 ^ suc (suc k) → digits n ≡ lowest (suc (suc k)) n
unfolding lowest
digits_lowest zero n f h g =
    digits_high n (omega (arith, pow-suc 10 0)) f
    ∙ ap (λ (l : List ℕ). l ++ (last_digit n ∷ []))
    (digits_low (n / 10) (omega (arith, pow-suc 10 0, pow-suc 10 1)))
digits_lowest (suc k) n f h g =
    digits_high n (omega (arith, pow-suc 10 (suc k))) f
    ∙ ap (λ (l : List ℕ). l ++ (last_digit n ∷ []))
    (digits_lowest k (n / 10) (omega arith) (omega (arith, pow-suc 10 (suc k)))
    (omega (arith, pow-suc 10 (suc (suc k)))))

abbrev pub last_of_ten : ℕ → List ℕ → List ℕ
last_of_ten zero t = []
last_of_ten (suc k) t = slice_index_or t (9 - k) 0 ∷ last_of_ten k t

pub puts_lowest : (k n : ℕ) {a b : MemoryWriter} {s : List ℕ} → n < 2 ^ 32 → 10 ^ suc k ≤ n → n < 10 ^ suc (suc k)
    → s ≡ lowest (suc (suc k)) n → Puts a b s → Puts a b (digits n)
puts_lowest k n {a} {b} f h g e p = subst (Puts a b) (e ∙ sym (digits_lowest k n f h g)) p

-- ---- ten digits, by twos

two_less : (k n q : ℕ) → q ≡ n / 100 → lowest (suc (suc k)) n ≡ lowest k q ++ (last_digit (n / 10) ∷ last_digit n ∷ [])
unfolding lowest
two_less k n q e =
    let hundreds : n / 10 / 10 ≡ q = omega arith in
    ap (λ (m : ℕ). lowest k m ++ (last_digit (n / 10) ∷ []) ++ (last_digit n ∷ [])) hundreds
    ∙ append_assoc (lowest k q) (last_digit (n / 10) ∷ []) (last_digit n ∷ [])

two_more : (k n q : ℕ) {s : List ℕ} → q ≡ n / 100 → s ≡ lowest k q
    → s ++ (last_digit (n / 10) ∷ last_digit n ∷ []) ≡ lowest (suc (suc k)) n
two_more k n q h e =
    ap (λ (l : List ℕ). l ++ (last_digit (n / 10) ∷ last_digit n ∷ [])) e ∙ sym (two_less k n q h)

pub ten_lowest : (n q r s t : ℕ) → q ≡ n / 100 → r ≡ q / 100 → s ≡ r / 100 → t ≡ s / 100
    → last_digit (t / 10) ∷ last_digit t ∷ last_digit (s / 10) ∷ last_digit s ∷ last_digit (r / 10) ∷ last_digit r
    ∷ last_digit (q / 10) ∷ last_digit q ∷ last_digit (n / 10) ∷ last_digit n ∷ []
    ≡ lowest 10 n
unfolding lowest
ten_lowest n q r s t eq er es et =
    two_more 8 n q eq (two_more 6 q r er (two_more 4 r s es (two_more 2 s t et refl)))
