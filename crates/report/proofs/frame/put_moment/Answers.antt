use Rattle.textio.proofs.Fronts.{writes_then, writes_fails}
use Rattle.report.specs.Frame.{moment_text}
use Rattle.report.proofs.frame.put_moment.Goals as goal

pub returns-in_err-put : goal.returns-in_err-put
unfolding moment_text
returns-in_err-put g c = writes_fails _ c.in_err-put.ensures c.from_residual.ensures

pub returns-in_err-put_dated : goal.returns-in_err-put_dated
unfolding moment_text
returns-in_err-put_dated g c =
    writes_then c.in_ok-put.ensures
    (writes_fails _ c.in_err-put_dated.ensures c.from_residual-in_err-put_dated.ensures)

pub returns : goal.returns
unfolding moment_text
returns g c = writes_then c.in_ok-put.ensures (writes_then c.in_ok-put_dated.ensures c.fill.ensures)
