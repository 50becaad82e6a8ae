-- the last byte of the memory is kept for the CR
use Rattle.std.proofs.Common.{arith, take_at}
use Rattle.floorlog.specs.Kept.{kept_most}
use Rattle.floorlog.proofs.NextKept.{next_kept, none_kept}
use Rattle.floorlog.proofs.kept.read_line.Goals as goal

pub returns-clause-next : goal.returns-clause-next
returns-clause-next g c =
    next_kept _ _ _ c.next_line.new.line (take_at c.next_line.new.line _ kept_most (omega arith)) (omega arith) _
    c.next_line.ensures.bound c.next_line.ensures.next

pub returns-clause-end : goal.returns-clause-end
returns-clause-end g c = none_kept _ _ c.next_line.new.line _ c.next_line.ensures.next
