-- Single bytes of a line (PJLink 1.04, 2.1; RULES, Commands).
--   s at i           the byte of s at the place i
--   is_alnum b       b is an ASCII letter or digit
--   upper_of b       the upper case of the letter b; any other byte as it is
--   is_cr_free s          no byte of s is CR, which ends a line
--   command_most     how many bytes a command line has at most, without its CR: seven of head and a parameter of 128
-- Assumes nothing.
use Rattle.std.specs.List.{list_all}
use Rattle.std.specs.Prelude.{ℕ, ◌-◌, Bool, not, ◌||◌, List, if◌then◌else◌, slice_index_or}
use Rattle.text.specs.Words.{◌is◌, ◌from◌to◌}

infix 60 ◌at◌
abbrev pub ◌at◌ : List ℕ → ℕ → ℕ
s at i = slice_index_or s i 0

abbrev pub is_alnum : ℕ → Bool
is_alnum b = b from "0" to "9" || b from "A" to "Z" || b from "a" to "z"

abbrev pub upper_of : ℕ → ℕ
upper_of b = if b from "a" to "z" then b - 32 else b

abbrev pub is_not_cr : ℕ → Bool
is_not_cr b = not (b is "\r")

unfoldable pub is_cr_free : List ℕ → Bool
is_cr_free s = list_all is_not_cr s

abbrev pub command_most : ℕ
command_most = 135
