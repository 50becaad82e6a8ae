-- What lies within four bytes side by side is told from anything else in their place.
--   AreBytes s     each of s is a byte
--   word_in s      the number that has the bytes s, the first of them lowest
-- Assumes nothing.
use Rattle.std.proofs.Common.{ℕ, suc, ◌+◌, ◌*◌, ◌^◌, ◌<◌, ◌≤◌, ◌≡◌, arith, refl, sym, ap, ◌∙◌, bit_xor}
use Rattle.std.proofs.Common.{List, [], ◌∷◌, ◌++◌, length, slice_index_or}
use Rattle.std.proofs.lemmas.Nat.{xor_of_32, xor_comm}
use lib.Bits.{xor_assoc, xor_shifted}
use Rattle.crc32.specs.Crc.{all_ones, after_byte, bits_shifted, remainder_on, crc32_on, crc32_of}
use Rattle.crc32.proofs.Shifts.{bits_over, bits_shifted-add, bits_within, bits_same, xor_same}
use Rattle.crc32.proofs.GoesOn.{remainder_on-append}

abbrev pub AreBytes : List ℕ → Type 0
AreBytes s = (k : ℕ) → slice_index_or s k 0 < 256

first : (b : ℕ) (s : List ℕ) → AreBytes (b ∷ s) → b < 256
first b s h = h 0

rest : (b : ℕ) (s : List ℕ) → AreBytes (b ∷ s) → AreBytes s
rest b s h k = h (suc k)

unfoldable pub word_in : List ℕ → ℕ
word_in [] = 0
word_in (b ∷ s) = word_in s * 2 ^ 8 + b

-- ---- a remainder has 32 bits, and what follows loses nothing of it

after_within : (r b : ℕ) → r < 2 ^ 32 → b < 256 → after_byte r b < 2 ^ 32
unfolding after_byte
after_within r b h l = bits_within 8 (bit_xor r b) (xor_of_32 r b h (omega arith))

after_same : (q r b : ℕ) → q < 2 ^ 32 → r < 2 ^ 32 → b < 256 → after_byte q b ≡ after_byte r b → q ≡ r
unfolding after_byte
after_same q r b hq hr l e =
    let below = xor_of_32 q b hq (omega arith) in
    let same = bits_same 8 (bit_xor q b) (bit_xor r b) below (xor_of_32 r b hr (omega arith)) e in
    xor_same b q r (xor_comm b q ∙ same ∙ xor_comm r b)

remainder_within : (r : ℕ) (s : List ℕ) → r < 2 ^ 32 → AreBytes s → remainder_on r s < 2 ^ 32
unfolding remainder_on
remainder_within r [] h bytes = h
remainder_within r (b ∷ s) h bytes =
    remainder_within (after_byte r b) s (after_within r b h (first b s bytes)) (rest b s bytes)

remainder_same : (q r : ℕ) (s : List ℕ) → q < 2 ^ 32 → r < 2 ^ 32 → AreBytes s → remainder_on q s ≡ remainder_on r s
    → q ≡ r
unfolding remainder_on
remainder_same q r [] hq hr bytes e = e
remainder_same q r (b ∷ s) hq hr bytes e =
    let h = first b s bytes in
    after_same q r b hq hr h
    (remainder_same (after_byte q b) (after_byte r b) s (after_within q b hq h) (after_within r b hr h) (rest b s bytes)
    e)

-- ---- bytes one after the other are a number at once

pub remainder_at_once : (r : ℕ) (s : List ℕ) → AreBytes s
    → remainder_on r s ≡ bits_shifted (8 * length s) (bit_xor (word_in s) r)
unfolding remainder_on after_byte word_in bits_shifted
remainder_at_once r [] bytes = refl
remainder_at_once r (b ∷ s) bytes =
    let x : ℕ = bit_xor r b in
    let w : ℕ = word_in s in
    let more : 8 + 8 * length s ≡ 8 * suc (length s) = omega arith in
    let regrouped : bit_xor (w * 2 ^ 8) x ≡ bit_xor (w * 2 ^ 8 + b) r =
    ap (bit_xor (w * 2 ^ 8)) (xor_comm r b)
    ∙ sym (xor_assoc (w * 2 ^ 8) b r)
    ∙ ap (λ (n : ℕ). bit_xor n r) (xor_shifted w 8 b (first b s bytes)) in
    remainder_at_once (bits_shifted 8 x) s (rest b s bytes)
    ∙ ap (bits_shifted (8 * length s)) (sym (bits_over 8 w x))
    ∙ sym (bits_shifted-add 8 (8 * length s) (bit_xor (w * 2 ^ 8) x))
    ∙ (λ i. bits_shifted (more i) (regrouped i))

word_same : (s t : List ℕ) → AreBytes s → AreBytes t → length s ≡ length t → word_in s ≡ word_in t → s ≡ t
unfolding word_in
word_same [] [] hs ht long e = refl
word_same [] (c ∷ t) hs ht long e = absurd (omega arith)
word_same (b ∷ s) [] hs ht long e = absurd (omega arith)
word_same (b ∷ s) (c ∷ t) hs ht long e =
    let hb = first b s hs in
    let hc = first c t ht in
    let low : b ≡ c = omega arith in
    let high : word_in s ≡ word_in t = omega arith in
    (λ i. low i ∷ word_same s t (rest b s hs) (rest c t ht) (omega arith) high i)

word_within : (s : List ℕ) → AreBytes s → length s ≤ 4 → word_in s < 2 ^ 32
unfolding word_in
word_within [] hs long = omega arith
word_within (a ∷ []) hs long = omega (arith, hs 0)
word_within (a ∷ b ∷ []) hs long = omega (arith, hs 0, hs 1)
word_within (a ∷ b ∷ c ∷ []) hs long = omega (arith, hs 0, hs 1, hs 2)
word_within (a ∷ b ∷ c ∷ d ∷ []) hs long =
    omega (arith, hs 0, hs 1, hs 2, hs 3)
word_within (a ∷ b ∷ c ∷ d ∷ e ∷ s) hs long = absurd (omega arith)

part_same : (r : ℕ) (s t : List ℕ) → r < 2 ^ 32 → AreBytes s → AreBytes t → length s ≡ length t → length s ≤ 4
    → remainder_on r s ≡ remainder_on r t → s ≡ t
part_same r s t h hs ht long few e =
    let ws = word_within s hs few in
    let wt = word_within t ht (omega arith) in
    let at_once : bits_shifted (8 * length s) (bit_xor (word_in s) r)
    ≡ bits_shifted (8 * length s) (bit_xor (word_in t) r)
    = sym (remainder_at_once r s hs)
    ∙ e
    ∙ remainder_at_once r t ht
    ∙ ap (λ (n : ℕ). bits_shifted (8 * n) (bit_xor (word_in t) r)) (sym long) in
    let same = bits_same (8 * length s) _ _ (xor_of_32 (word_in s) r ws h) (xor_of_32 (word_in t) r wt h) at_once in
    word_same s t hs ht long
    (xor_same r (word_in s) (word_in t) (xor_comm r (word_in s) ∙ same ∙ xor_comm (word_in t) r))

pub change_shows : (u s t v : List ℕ) → AreBytes u → AreBytes s → AreBytes t → AreBytes v → length s ≡ length t
    → length s ≤ 4 → crc32_of (u ++ (s ++ v)) ≡ crc32_of (u ++ (t ++ v)) → s ≡ t
unfolding crc32_of
change_shows u s t v hu hs ht hv long few e =
    let r : ℕ = remainder_on all_ones u in
    let h : r < 2 ^ 32 = remainder_within all_ones u (omega arith) hu in
    let split : (m : List ℕ) → remainder_on all_ones (u ++ (m ++ v)) ≡ remainder_on (remainder_on r m) v
    = λ (m : List ℕ). remainder_on-append all_ones u (m ++ v) ∙ remainder_on-append r m v in
    part_same r s t h hs ht long few
    (remainder_same (remainder_on r s) (remainder_on r t) v (remainder_within r s h hs) (remainder_within r t h ht) hv
    (sym (split s) ∙ xor_same all_ones _ _ e ∙ split t))

-- ---- a sum has 32 bits

pub crc32_on_within : (c : ℕ) (s : List ℕ) → c < 2 ^ 32 → AreBytes s → crc32_on c s < 2 ^ 32
unfolding crc32_on
crc32_on_within c s h bytes =
    xor_of_32 all_ones _ (omega arith) (remainder_within (bit_xor all_ones c) s (xor_of_32 all_ones c (omega arith) h)
    bytes)

pub crc32_of_within : (s : List ℕ) → AreBytes s → crc32_of s < 2 ^ 32
unfolding crc32_of
crc32_of_within s bytes = xor_of_32 all_ones _ (omega arith) (remainder_within all_ones s (omega arith) bytes)
