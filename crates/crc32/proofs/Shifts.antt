-- What a shift of the remainder does to a sum of remainders: each of the two is shifted by itself, so that what stands
-- above the bits that go out is only moved. It loses nothing.
-- Assumes nothing.
use Rattle.std.proofs.Common.{ℕ, zero, suc, ◌+◌, ◌*◌, ◌/◌, ◌%◌, ◌^◌, ◌<◌, ◌≡◌, arith, refl, sym, ap, ◌∙◌, bit_xor}
use Rattle.std.proofs.Common.{pow-suc}
use Rattle.std.proofs.Common.{if◌then◌else◌, ◌==◌, Bool, true, false, eqb-true}
use Rattle.std.proofs.lemmas.Bool.{eqb-false}
use Rattle.std.proofs.lemmas.Nat.{xor_shr, xor_mod, xor_of_32, xor_comm}
use Rattle.std.proofs.Math.Nat.{mul_assoc, mul-one, pow-zero}
use lib.Bits.{xor_assoc, xor_self, xor_zero_l}
use Rattle.crc32.specs.Crc.{polynomial, bit_shifted, bits_shifted}

-- the part of the polynomial that comes in
abbrev come_in : Bool → ℕ → ℕ
come_in even x = if even then x else bit_xor x polynomial

come_in_over : (even : Bool) (a x : ℕ) → come_in even (bit_xor a x) ≡ bit_xor a (come_in even x)
come_in_over true a x = refl
come_in_over false a x = xor_assoc a x polynomial

-- a number with nothing in its lowest bit is only moved
bit_over : (a x : ℕ) → bit_shifted (bit_xor (a * 2) x) ≡ bit_xor a (bit_shifted x)
unfolding bit_shifted
bit_over a x =
    let none : a * 2 % 2 ≡ 0 = omega arith in
    let half : a * 2 / 2 ≡ a = omega arith in
    let lowest : bit_xor (a * 2) x % 2 ≡ x % 2 =
    xor_mod (a * 2) x 1 ∙ ap (λ (n : ℕ). bit_xor n (x % 2)) none in
    let rest : bit_xor (a * 2) x / 2 ≡ bit_xor a (x / 2) =
    xor_shr (a * 2) x 1 ∙ ap (λ (n : ℕ). bit_xor n (x / 2)) half in
    (λ i. come_in (lowest i == 0) (rest i)) ∙ come_in_over (x % 2 == 0) a (x / 2)

pub bits_over : (n a x : ℕ) → bits_shifted n (bit_xor (a * 2 ^ n) x) ≡ bit_xor a (bits_shifted n x)
unfolding bits_shifted
bits_over zero a x = ap (λ (m : ℕ). bit_xor m x) (ap (λ (m : ℕ). a * m) (pow-zero 2) ∙ mul-one a)
bits_over (suc n) a x =
    let twice : a * 2 ^ suc n ≡ a * 2 ^ n * 2 = ap (λ (m : ℕ). a * m) (pow-suc 2 n) ∙ sym (mul_assoc a (2 ^ n) 2) in
    ap (λ (m : ℕ). bits_shifted n (bit_shifted (bit_xor m x))) twice
    ∙ ap (bits_shifted n) (bit_over (a * 2 ^ n) x)
    ∙ bits_over n a (bit_shifted x)

pub bits_shifted-add : (m n x : ℕ) → bits_shifted (m + n) x ≡ bits_shifted n (bits_shifted m x)
unfolding bits_shifted
bits_shifted-add zero n x = let k : 0 + n ≡ n = omega arith in ap (λ (k : ℕ). bits_shifted k x) k
bits_shifted-add (suc m) n x =
    let k : suc m + n ≡ suc (m + n) = omega arith in
    ap (λ (k : ℕ). bits_shifted k x) k ∙ bits_shifted-add m n (bit_shifted x)

-- what is added twice is taken away
taken : (a x : ℕ) → bit_xor a (bit_xor a x) ≡ x
taken a x = sym (xor_assoc a a x) ∙ ap (λ (n : ℕ). bit_xor n x) (xor_self a) ∙ xor_zero_l x

-- ---- a sum of two is shifted as each of them is

come_linear : (x y a b : ℕ) → x < 2 → y < 2
    → come_in (bit_xor x y == 0) (bit_xor a b) ≡ bit_xor (come_in (x == 0) a) (come_in (y == 0) b)
come_linear zero zero a b hx hy = refl
come_linear zero (suc zero) a b hx hy = xor_assoc a b polynomial
come_linear (suc zero) zero a b hx hy =
    xor_assoc a b polynomial ∙ ap (bit_xor a) (xor_comm b polynomial) ∙ sym (xor_assoc a polynomial b)
come_linear (suc zero) (suc zero) a b hx hy =
    ap (bit_xor a) (sym (taken polynomial b) ∙ ap (bit_xor polynomial) (xor_comm polynomial b))
    ∙ sym (xor_assoc a polynomial (bit_xor b polynomial))
come_linear (suc (suc x)) y a b hx hy = absurd (omega arith)
come_linear x (suc (suc y)) a b hx hy = absurd (omega arith)

bit_linear : (a b : ℕ) → bit_shifted (bit_xor a b) ≡ bit_xor (bit_shifted a) (bit_shifted b)
unfolding bit_shifted
bit_linear a b =
    (λ i. come_in (xor_mod a b 1 i == 0) (xor_shr a b 1 i))
    ∙ come_linear (a % 2) (b % 2) (a / 2) (b / 2) (omega arith) (omega arith)

pub bits_linear : (n a b : ℕ) → bits_shifted n (bit_xor a b) ≡ bit_xor (bits_shifted n a) (bits_shifted n b)
unfolding bits_shifted
bits_linear zero a b = refl
bits_linear (suc n) a b = ap (bits_shifted n) (bit_linear a b) ∙ bits_linear n (bit_shifted a) (bit_shifted b)

-- ---- in 32 bits

bit_within : (x : ℕ) → x < 2 ^ 32 → bit_shifted x < 2 ^ 32
unfolding bit_shifted
bit_within x h = grind (arith, xor_of_32)

pub bits_within : (n x : ℕ) → x < 2 ^ 32 → bits_shifted n x < 2 ^ 32
unfolding bits_shifted
bits_within zero x h = h
bits_within (suc n) x h = bits_within n (bit_shifted x) (bit_within x h)

pub xor_same : (a b c : ℕ) → bit_xor a b ≡ bit_xor a c → b ≡ c
xor_same a b c e = sym (taken a b) ∙ ap (bit_xor a) e ∙ taken a c

-- the polynomial's highest bit comes in where an odd number is shifted, and nowhere else
odd_is_high : (x : ℕ) → x < 2 ^ 32 → bit_xor (x / 2) polynomial / 2 ^ 31 ≡ 1
odd_is_high x h =
    let none : x / 2 / 2 ^ 31 ≡ 0 = omega arith in
    xor_shr (x / 2) polynomial 31 ∙ ap (λ (n : ℕ). bit_xor n (polynomial / 2 ^ 31)) none

bit_same : (x y : ℕ) → x < 2 ^ 32 → y < 2 ^ 32 → bit_shifted x ≡ bit_shifted y → x ≡ y
unfolding bit_shifted
bit_same x y hx hy e = by (x % 2 == 0) (y % 2 == 0) refl refl e
  where
    by : (a b : Bool) → (x % 2 == 0) ≡ a → (y % 2 == 0) ≡ b
        → come_in a (x / 2) ≡ come_in b (y / 2)
        → x ≡ y
    by true true p q e = omega (arith, eqb-true _ _ p, eqb-true _ _ q, e)
    by false false p q e =
        let half : x / 2 ≡ y / 2
        = xor_same polynomial _ _ (xor_comm polynomial (x / 2) ∙ e ∙ xor_comm (y / 2) polynomial) in
        omega (arith, eqb-false _ _ p, eqb-false _ _ q, half)
    by true false p q e = absurd (omega (arith, odd_is_high y hy, ap (λ (n : ℕ). n / 2 ^ 31) e))
    by false true p q e = absurd (omega (arith, odd_is_high x hx, ap (λ (n : ℕ). n / 2 ^ 31) e))

pub bits_same : (n x y : ℕ) → x < 2 ^ 32 → y < 2 ^ 32 → bits_shifted n x ≡ bits_shifted n y → x ≡ y
unfolding bits_shifted
bits_same zero x y hx hy e = e
bits_same (suc n) x y hx hy e =
    bit_same x y hx hy (bits_same n (bit_shifted x) (bit_shifted y) (bit_within x hx) (bit_within y hy) e)
