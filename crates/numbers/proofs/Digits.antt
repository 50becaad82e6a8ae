-- The digits of a number: by the quotient and the last digit, how many there are, and that each is a digit.
-- Assumes nothing.
use Rattle.std.proofs.lemmas.Grind.{common_steps}
use Rattle.std.specs.List.{list_all}
use Rattle.std.proofs.Common.{ℕ, zero, suc, ◌+◌, ◌/◌, ◌^◌, ◌<◌, ◌≤◌, ◌≡◌, refl, sym, ap, ◌∙◌, true, not, List}
use Rattle.std.proofs.Common.{[], ◌∷◌, ◌++◌, pow-suc, suc-add, zero-add, arith, length, slice_index_or, length-append}
use Rattle.std.proofs.Common.{lt-ltb, le-ltb, le-leb}
use Rattle.std.proofs.Math.Nat.{pow-le-pow_right}
use Prim.Native.Char.{Char, code}
use Rattle.text.specs.Words.{◌is◌}
use Rattle.text.proofs.Choices.{both}
use Rattle.text.proofs.Scanning.{list_all-append, list_all_at, list_all_implies}
use Rattle.numbers.specs.Decimal.{last_digit, digits_in, digits, long_digits, is_digit}

-- one quotient more to take changes nothing
room : (k n : ℕ) → n < 10 ^ suc k → digits_in (suc k) n ≡ digits_in k n
room zero n h = simp (lt-ltb n 10 (omega (arith, pow-suc 10 0)))
room (suc k) n h = grind (arith, room k (n / 10) (omega (arith, pow-suc 10 (suc k))))

more_room : (j k n : ℕ) → n < 10 ^ suc k → digits_in (j + k) n ≡ digits_in k n
more_room zero k n h = ap (λ (m : ℕ). digits_in m n) (zero-add k)
more_room (suc j) k n h =
    ap (λ (m : ℕ). digits_in m n) (suc-add j k)
    ∙ room (j + k) n
    (omega (arith, pow-le-pow_right {n = 10} (omega arith) {i = suc k} {j = suc (j + k)} (omega arith)))
    ∙ more_room j k n h

-- a u32 is a u64
pub digits_long : (n : ℕ) → n < 2 ^ 32 → digits n ≡ long_digits n
unfolding digits long_digits
digits_long n f = sym (more_room 10 9 n (omega arith))

-- by the quotient and the last digit
low_in : (k n : ℕ) → n < 10 → digits_in (suc k) n ≡ last_digit n ∷ []
low_in k n h = simp (lt-ltb n 10 h)

high_in : (k n : ℕ) → 10 ≤ n → n / 10 < 10 ^ suc k
    → digits_in (suc k) n ≡ digits_in (suc k) (n / 10) ++ (last_digit n ∷ [])
high_in k n h f = simp (le-ltb n 10 h) (ap (λ (l : List ℕ). l ++ (last_digit n ∷ [])) (sym (room k (n / 10) f)))

pub long_low : (n : ℕ) → n < 10 → long_digits n ≡ last_digit n ∷ []
unfolding long_digits
long_low n h = low_in 18 n h

pub long_high : (n : ℕ) → 10 ≤ n → n < 2 ^ 64 → long_digits n ≡ long_digits (n / 10) ++ (last_digit n ∷ [])
unfolding long_digits
long_high n h f = high_in 18 n h (omega arith)

pub long_length_high : (n : ℕ) → 10 ≤ n → n < 2 ^ 64 → length (long_digits n) ≡ length (long_digits (n / 10)) + 1
long_length_high n h f = ap length (long_high n h f) ∙ length-append (long_digits (n / 10)) (last_digit n ∷ [])

-- the one induction: P of how many quotients may be taken, a number, and its digits
module _
    (P : ℕ → ℕ → List ℕ → Type 0)
    (end : (n : ℕ) → P 0 n (last_digit n ∷ []))
    (low : (k n : ℕ) → n < 10 → P (suc k) n (last_digit n ∷ []))
    (high : (k n : ℕ) (l : List ℕ) → 10 ≤ n → P k (n / 10) l → P (suc k) n (l ++ (last_digit n ∷ [])))
  where
    digits_In_all : (k n : ℕ) → P k n (digits_in k n)
    digits_In_all zero n = end n
    digits_In_all (suc k) n = grind (arith, digits_In_all k (n / 10))

-- what holds of each number below ten, and of a number where it holds of its quotient, holds of every u32
pub digits_all :
    (P : ℕ → List ℕ → Type 0)
    → ((n : ℕ) → n < 10 → P n (last_digit n ∷ []))
    → ((n : ℕ) (l : List ℕ) → 10 ≤ n → P (n / 10) l → P n (l ++ (last_digit n ∷ [])))
    → (n : ℕ)
    → n < 2 ^ 32
    → P n (digits n)
unfolding digits
digits_all P low high n f = grind (arith, common_steps)

lengths_in : (k n : ℕ) → (1 ≤ length (digits_in k n)) × (length (digits_in k n) ≤ suc k)
lengths_in =
    digits_In_all
    (λ (k n : ℕ) (l : List ℕ). (1 ≤ length l) × (length l ≤ suc k))
    (λ n. (omega arith, omega arith))
    (λ k n h. (omega arith, omega arith))
    (λ k n l h p. rw length-append (omega arith, omega arith))

pub digits_at_least_1 : (n : ℕ) → 1 ≤ length (digits n)
unfolding digits
digits_at_least_1 n = (lengths_in 9 n).0

pub digits_at_most_10 : (n : ℕ) → length (digits n) ≤ 10
unfolding digits
digits_at_most_10 n = (lengths_in 9 n).1

pub long_at_most_20 : (n : ℕ) → length (long_digits n) ≤ 20
unfolding long_digits
long_at_most_20 n = (lengths_in 19 n).1

-- as many digits as the power of ten above the number
pub digits_at_most : (k n : ℕ) → n < 2 ^ 32 → n < 10 ^ suc k → length (digits n) ≤ suc k
digits_at_most k n f = digits_all (λ (n : ℕ) (l : List ℕ). (k : ℕ) → n < 10 ^ suc k → length l ≤ suc k) low high n f k
  where
    low : (n : ℕ) → n < 10 → (k : ℕ) → n < 10 ^ suc k → 1 ≤ suc k
    low n h k g = omega arith

    high : (n : ℕ) (l : List ℕ) → 10 ≤ n → ((k : ℕ) → n / 10 < 10 ^ suc k → length l ≤ suc k) → (k : ℕ) → n < 10 ^ suc k
        → length (l ++ (last_digit n ∷ [])) ≤ suc k
    high n l h p zero g = absurd (omega (arith, pow-suc 10 0))
    high n l h p (suc k) g = rw length-append (omega (arith, p k (omega (arith, pow-suc 10 (suc k)))))

pub digits_at_most_5 : (n : ℕ) → n < 100000 → length (digits n) ≤ 5
digits_at_most_5 n h = digits_at_most 4 n (omega arith) h

pub digit_is_digit : (b : ℕ) → code "0" ≤ b → b ≤ code "9" → is_digit b ≡ true
digit_is_digit b l h = simp (le-leb (code "0") b l, le-leb b (code "9") h)

last_is_digit : (n : ℕ) → list_all is_digit (last_digit n ∷ []) ≡ true
last_is_digit n = both (digit_is_digit (last_digit n) (omega arith) (omega arith)) refl

pub digits_are_digits : (n : ℕ) → list_all is_digit (digits n) ≡ true
unfolding digits
digits_are_digits = grind (arith, last_is_digit, list_all-append)

pub is_digit-slice_index_or : (n i : ℕ) → i < length (digits n) → is_digit (slice_index_or (digits n) i 0) ≡ true
is_digit-slice_index_or n = list_all_at is_digit (digits n) 0 (digits_are_digits n)

-- no CR, no space, and none of the other characters below the digits
pub digits_without : (c : Char) → code c < code "0" → (n : ℕ) → list_all (λ (b : ℕ). not (b is c)) (digits n) ≡ true
digits_without c l n = search (arith, list_all_implies, digits_are_digits n)
