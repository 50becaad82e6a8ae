use Rattle.textio.proofs.Fronts.{writes_then, writes_fails}
use Rattle.report.proofs.frame.put_paragraph.Goals as goal

pub returns-in_err-put : goal.returns-in_err-put
returns-in_err-put g c =
    rw c.in-Some.is (writes_fails _ c.in_err-put.ensures c.from_residual.ensures)

pub returns-in_err-put-2 : goal.returns-in_err-put-2
returns-in_err-put-2 g c =
    rw c.in-Some.is
    (writes_then c.in_ok-put.ensures (writes_fails _ c.in_err-put-2.ensures c.from_residual-in_err-put-2.ensures))

pub returns : goal.returns
returns g c =
    rw c.in-Some.is (writes_then c.in_ok-put.ensures (writes_then c.in_ok-put-2.ensures c.put-3.ensures))
