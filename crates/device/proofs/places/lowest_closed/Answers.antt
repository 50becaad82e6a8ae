use Rattle.std.proofs.Common.{sym, ◌∙◌, arith}
use Rattle.record.proofs.LowestClosed.{lowest_here, one_unclosed, all_unclosed}
use Rattle.device.proofs.places.lowest_closed.Goals as goal

pub returns-then-is_closed : goal.returns-then-is_closed
returns-then-is_closed c = lowest_here _ c.loop-place.invariant (omega arith) (sym c.is_closed.ensures
    ∙ c.if-is_closed.true)

pub loop-place-preserved : goal.loop-place-preserved
loop-place-preserved c = one_unclosed _ c.loop-place.invariant (omega arith) (sym c.is_closed.ensures
    ∙ c.if-is_closed.false)

pub returns : goal.returns
returns c = grind (arith, all_unclosed)
