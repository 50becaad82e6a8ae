-- A line of a log of the second kind says no more seconds than a call lets pass.
-- Assumes nothing.
use Rattle.std.proofs.Common.{ℕ, ◌≤◌, ◌≡◌, refl, arith, List, Option, Some, None}
use Rattle.clock.specs.Passing.{seconds_most}
use Rattle.history.specs.Calls.{opens, receives, passes, closes, faults, reports, enables}
use Rattle.history.specs.Entries.{LogEntry, header, call, stated, entry_in}
use Rattle.history.proofs.SecondsSaid.{passing_most}
use Rattle.watch.specs.CallSteps.{seconds_of_said, said_seconds}

pub said_most : (l : List ℕ) → said_seconds l ≤ seconds_most
said_most l = by (entry_in l) refl
  where
    by : (o : Option LogEntry) → entry_in l ≡ o → seconds_of_said o ≤ seconds_most
    by None is = omega arith
    by (Some (header f s t)) is = omega arith
    by (Some (stated n s shown)) is = omega arith
    by (Some (call (opens p r))) is = omega arith
    by (Some (call (receives p bs))) is = omega arith
    by (Some (call (passes n))) is = passing_most l n is
    by (Some (call (closes p))) is = omega arith
    by (Some (call (faults m))) is = omega arith
    by (Some (call (reports ds))) is = omega arith
    by (Some (call (enables k m))) is = omega arith
