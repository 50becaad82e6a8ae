-- A flag of a record that a host keeps (RULES, The legal record): a byte, of which any is a value.
--   is_flag n      what a legal record has: 0 or 1
--   is_lowered n   it is 0
--   is_raised n    it is any other number, as C reads one
--   flag_of b      the flag that says b: 1 raised, 0 lowered
-- Assumes nothing.
use Rattle.std.specs.Prelude.{ℕ, Bool, true, false, not, nat_le, ◌==◌}

abbrev pub is_flag : ℕ → Bool
is_flag n = nat_le n 1

abbrev pub is_lowered : ℕ → Bool
is_lowered n = n == 0

abbrev pub is_raised : ℕ → Bool
is_raised n = not (is_lowered n)

abbrev pub flag_of : Bool → ℕ
flag_of true = 1
flag_of false = 0
