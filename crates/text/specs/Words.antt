-- The words that every specification here is written in.
--   b is "%"                  the byte b is that character
--   b from "0" to "9"         the byte b is one of those characters
--   over r m                  the memory m with the reply r at its start, and every later byte as it was
-- Assumes nothing.
use Rattle.std.specs.Prelude.{ℕ, Bool, ◌&&◌, List, ◌++◌, length, drop, nat_le, ◌==◌}
use Prim.Native.Char.{Char, code}

infix 40 ◌is◌
infix 40 ◌from◌to◌
abbrev pub ◌is◌ : ℕ → Char → Bool
b is c = b == code c

abbrev pub ◌from◌to◌ : ℕ → Char → Char → Bool
b from l to h = nat_le (code l) b && nat_le b (code h)

abbrev pub over : List ℕ → List ℕ → List ℕ
over r m = r ++ drop (length r) m
