-- The function F of RFC 1321, 3.4, "if X then Y else Z" in each bit position, in two ways that agree, and G as a sum.
--   mixed x y z         as the code has it
--   chosen n x y z      as the definition has it, n being the word of ones
-- Assumes nothing.
use Rattle.std.proofs.lemmas.Nat.{or_disjoint, and_comm, and_assoc, and_shr, or_shr, xor_shr, and_mod, or_mod, xor_mod}
use Rattle.std.specs.Int.Bits.{and_zero_l}
use Rattle.std.proofs.lemmas.Grind.{and-not_self}
use Rattle.std.proofs.Common.{◌≡◌, ℕ, zero, suc, ◌+◌, ◌-◌, ◌*◌, ◌/◌, ◌%◌, ◌^◌, ◌<◌, pow-suc, refl, sym, ap, ◌∙◌}
use Rattle.std.proofs.Common.{arith, eqb-true, bit_and, bit_or, bit_xor}
use Rattle.text.proofs.EachBelow.{each_below}
use Rattle.digest.specs.Words.{complement}
use Rattle.digest.specs.Rounds.{fn_g, by_round}

abbrev mixed : ℕ → ℕ → ℕ → ℕ
mixed x y z = bit_xor z (bit_and x (bit_xor y z))

abbrev chosen : ℕ → ℕ → ℕ → ℕ → ℕ
chosen n x y z = bit_or (bit_and x y) (bit_and (n - x) z)

at_a_bit : (x y z : ℕ) → x < 2 → y < 2 → z < 2 → mixed x y z ≡ chosen 1 x y z
at_a_bit x y z hx hy hz = grind (arith, eqb-true, each_below)

same_halves : (m n : ℕ) → m / 2 ≡ n / 2 → m % 2 ≡ n % 2 → m ≡ n
same_halves m n h o = omega arith

pub mixed_is_chosen : (k x y z : ℕ) → x < 2 ^ k → z < 2 ^ k → mixed x y z ≡ chosen (2 ^ k - 1) x y z
mixed_is_chosen zero x y z hx hz = grind arith
mixed_is_chosen (suc k) x y z hx hz =
    let twice : 2 ^ suc k ≡ 2 ^ k * 2 = pow-suc 2 k in
    let half : (2 ^ suc k - 1 - x) / 2 ≡ 2 ^ k - 1 - x / 2 = omega arith in
    let odd : (2 ^ suc k - 1 - x) % 2 ≡ 1 - x % 2 = omega arith in
    let low = at_a_bit (x % 2) (y % 2) (z % 2) (omega arith) (omega arith) (omega arith) in
    let high = mixed_is_chosen k (x / 2) (y / 2) (z / 2) (omega arith) (omega arith) in
    same_halves _ _
    (simp (half_xor, half_and, half_or, half) high)
    (simp (odd_xor, odd_and, odd_or, odd) low)
  where
    half_and : (a b : ℕ) → bit_and a b / 2 ≡ bit_and (a / 2) (b / 2)
    half_and a b = and_shr a b 1

    half_or : (a b : ℕ) → bit_or a b / 2 ≡ bit_or (a / 2) (b / 2)
    half_or a b = or_shr a b 1

    half_xor : (a b : ℕ) → bit_xor a b / 2 ≡ bit_xor (a / 2) (b / 2)
    half_xor a b = xor_shr a b 1

    odd_and : (a b : ℕ) → bit_and a b % 2 ≡ bit_and (a % 2) (b % 2)
    odd_and a b = and_mod a b 1

    odd_or : (a b : ℕ) → bit_or a b % 2 ≡ bit_or (a % 2) (b % 2)
    odd_or a b = or_mod a b 1

    odd_xor : (a b : ℕ) → bit_xor a b % 2 ≡ bit_xor (a % 2) (b % 2)
    odd_xor a b = xor_mod a b 1

-- G's two halves have no bit in common
none_in_both : (x y z : ℕ) → z < 2 ^ 32 → bit_and (bit_and x z) (bit_and y (complement z)) ≡ 0
none_in_both x y z hz =
    let apart : bit_and (bit_and y (complement z)) z ≡ 0 = and-not_self y (2 ^ 32 - 1) z z refl (omega arith) refl in
    and_comm (bit_and x z) _
    ∙ ap (bit_and (bit_and y (complement z))) (and_comm x z)
    ∙ sym (and_assoc x (bit_and y (complement z)) z)
    ∙ ap (λ (n : ℕ). bit_and n x) apart
    ∙ and_zero_l x

pub halves_added : (x y z : ℕ) → z < 2 ^ 32 → bit_and y (complement z) + bit_and x z ≡ fn_g x y z
halves_added x y z hz =
    let apart = or_disjoint (bit_and x z) (bit_and y (complement z)) (none_in_both x y z hz) in
    omega (arith, apart)

-- a function in two parts, of which round 2 alone has the first
pub in_parts : (i f g h k early late : ℕ) → early + late ≡ g
    → by_round i 0 early 0 0 + by_round i f late h k ≡ by_round i f g h k
unfolding by_round
in_parts i f g h k early late e = grind (arith, e)
