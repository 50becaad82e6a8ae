-- What the readers of a line's parts give, as the definitions have it.
--   rest_seen r      a value, and what follows it
--   summed_seen r    a number, a sum, and what follows
-- Assumes nothing.
use Rattle.std.specs.Prelude.{ℕ, List}
use Rattle.std.specs.Borrow.{Bor}
use Rattle.history.specs.declared.read.Summed.{Summed}

abbrev pub rest_seen : ℕ × Bor (List ℕ) → ℕ × List ℕ
rest_seen r = (r.0, r.1.now)

abbrev pub summed_seen : Summed → ℕ × (ℕ × List ℕ)
summed_seen r = (r.number, (r.sum, r.rest.now))
