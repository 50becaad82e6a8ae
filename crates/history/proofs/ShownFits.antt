-- What a record shows, in no more bytes than there is room for.
-- Assumes nothing.
use Rattle.std.proofs.Common.{ℕ, ◌+◌, ◌*◌, ◌≤◌, ◌≡◌, ap, List, [], ◌∷◌, ◌++◌, arith, length, length-append, length-take}
use Rattle.numbers.proofs.Digits.{digits_at_most_10}
use Rattle.history.specs.Shown.{lamps_shown}

each_short : (xs : List ℕ) → length (lamps_shown xs) ≤ 11 * length xs
each_short [] = omega arith
each_short (x ∷ xs) = grind (arith, length-append, digits_at_most_10, each_short xs)

-- lamps on a line, after what stood there
pub lamps_short : {b : List ℕ} (a xs : List ℕ) → b ≡ a ++ lamps_shown xs → length b ≤ length a + 11 * length xs
lamps_short a xs e = omega (arith, ap length e, length-append a (lamps_shown xs), each_short xs)

pub ruleset shown_lengths = (digits_at_most_10, lamps_short, length-append, length-take)
