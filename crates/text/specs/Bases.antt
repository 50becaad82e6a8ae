-- Numbers by their digits in any base, the most significant first: decimal (crate `numbers`), hexadecimal (`digest`),
-- bytes as they are (base 256). `worth` is the number that a byte stands for, `digit` the byte for a number.
--   value_in base worth v s      the number whose digits are those of v, then s
--   low_digits base digit n x    the n lowest digits of x: zeros come first where it has fewer
-- Assumes nothing.
use Rattle.std.specs.Prelude.{ℕ, zero, suc, ◌+◌, ◌*◌, ◌/◌, ◌%◌, ◌^◌, List, [], ◌∷◌}

abbrev pub value_in : ℕ → (ℕ → ℕ) → ℕ → List ℕ → ℕ
value_in base worth v [] = v
value_in base worth v (b ∷ s) = value_in base worth (v * base + worth b) s

abbrev pub low_digits : ℕ → (ℕ → ℕ) → ℕ → ℕ → List ℕ
low_digits base digit zero x = []
low_digits base digit (suc n) x = digit (x / base ^ n % base) ∷ low_digits base digit n x
