-- What the stretches of a lamp tell, over any history.
-- Assumes nothing.
use Rattle.std.proofs.Common.{arith, ℕ, Bool, List}
use Rattle.record.specs.Wanted.{Wanted}
use Rattle.demands.specs.History.{HistoryEvent}
use Rattle.stretches.specs.Stretches.{seconds_lit, stretches_of, StretchesTell}
use Rattle.stretches.proofs.Exactly.{exactly_lit}
use Rattle.stretches.proofs.OrderKept.{in_order}
use Rattle.stretches.proofs.LengthsAdd.{lengths_lit, lit_burns}

pub stretches_tell : (w : Wanted) (ms : List Bool) (k : ℕ) (es : List HistoryEvent)
    → StretchesTell w ms k es (stretches_of (seconds_lit w ms k es))
stretches_tell w ms k es = grind (arith, exactly_lit, in_order, lengths_lit, lit_burns)
