-- A sum goes on over the parts of a text.
-- Assumes nothing.
use Rattle.std.proofs.Common.{ℕ, ◌+◌, ◌<◌, ◌≡◌, length, take, take-suc, add-one, slice_index_or, List, [], ◌∷◌, ◌++◌}
use Rattle.std.proofs.Common.{refl, sym, ap, ◌∙◌, bit_xor}
use lib.Bits.{xor_assoc, xor_self, xor_zero_l}
use Rattle.crc32.specs.Crc.{all_ones, after_byte, remainder_on, crc32_on, crc32_of}

pub remainder_on-append : (r : ℕ) (s t : List ℕ) → remainder_on r (s ++ t) ≡ remainder_on (remainder_on r s) t
unfolding remainder_on
remainder_on-append r [] t = refl
remainder_on-append r (b ∷ s) t = remainder_on-append (after_byte r b) s t

-- one byte more
pub remainder_on-take : (r : ℕ) (s : List ℕ) (i : ℕ) → i < length s
    → remainder_on r (take (i + 1) s) ≡ after_byte (remainder_on r (take i s)) (slice_index_or s i 0)
unfolding remainder_on
remainder_on-take r s i h =
    ap (remainder_on r) (ap (λ (k : ℕ). take k s) (add-one i) ∙ take-suc s i 0 h)
    ∙ remainder_on-append r (take i s) (slice_index_or s i 0 ∷ [])

pub remainder_on-nil : (r : ℕ) → remainder_on r [] ≡ r
unfolding remainder_on
remainder_on-nil r = refl

-- what is complemented twice
twice : (x : ℕ) → bit_xor all_ones (bit_xor all_ones x) ≡ x
twice x = sym (xor_assoc all_ones all_ones x) ∙ ap (λ (n : ℕ). bit_xor n x) (xor_self all_ones) ∙ xor_zero_l x

on_complement : (r : ℕ) (t : List ℕ) → crc32_on (bit_xor all_ones r) t ≡ bit_xor all_ones (remainder_on r t)
unfolding crc32_on
on_complement r t = ap (λ (x : ℕ). bit_xor all_ones (remainder_on x t)) (twice r)

pub crc32_on-append : (c : ℕ) (s t : List ℕ) → crc32_on c (s ++ t) ≡ crc32_on (crc32_on c s) t
unfolding crc32_on
crc32_on-append c s t =
    ap (bit_xor all_ones) (remainder_on-append (bit_xor all_ones c) s t)
    ∙ sym (on_complement (remainder_on (bit_xor all_ones c) s) t)

pub crc32_on-zero : (s : List ℕ) → crc32_on 0 s ≡ crc32_of s
unfolding crc32_on crc32_of
crc32_on-zero s = refl

pub crc32_on-crc32_of : (s t : List ℕ) → crc32_on (crc32_of s) t ≡ crc32_of (s ++ t)
crc32_on-crc32_of s t =
    ap (λ (c : ℕ). crc32_on c t) (sym (crc32_on-zero s)) ∙ sym (crc32_on-append 0 s t) ∙ crc32_on-zero (s ++ t)

pub ruleset remainder_steps = (remainder_on-take, remainder_on-nil)
