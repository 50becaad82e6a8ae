-- Lists that hand over a day are no longer than a day's.
-- Assumes nothing.
use Rattle.std.proofs.Common.{ℕ, List, arith}
use Rattle.std.proofs.lemmas.List.FromFn.{length-map-range_with_len}
use Rattle.day.specs.Days.{IsDay}
use Rattle.day.specs.Verdicts.{InRange}
use Rattle.board.specs.Lists.{Lists, CanBeADay, jobs_in, rigs_in, plan_in}

pub in_range_fits : (l : Lists) (a : List ℕ) → InRange (rigs_in l) (plan_in l a) → CanBeADay l
in_range_fits l a w = grind (arith, length-map-range_with_len)

pub day_fits : (l : Lists) → IsDay (jobs_in l) (rigs_in l) → CanBeADay l
day_fits l w = grind (arith, length-map-range_with_len)
