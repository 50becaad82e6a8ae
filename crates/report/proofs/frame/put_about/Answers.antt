use Rattle.textio.proofs.Fronts.{writes_then, writes_fails}
use Rattle.report.specs.Frame.{about_list}
use Rattle.report.proofs.frame.put_about.Goals as goal

pub returns-in_err-put : goal.returns-in_err-put
unfolding about_list
returns-in_err-put g c =
    writes_fails _ c.in_err-put.ensures c.from_residual.ensures

pub returns-in_err-put_projector : goal.returns-in_err-put_projector
unfolding about_list
returns-in_err-put_projector g c =
    writes_then c.in_ok-put.ensures
    (writes_fails _ c.in_err-put_projector.ensures c.from_residual-in_err-put_projector.ensures)

pub returns-in_err-put_form : goal.returns-in_err-put_form
unfolding about_list
returns-in_err-put_form g c =
    writes_then c.in_ok-put.ensures
    (writes_then c.in_ok-put_projector.ensures
    (writes_fails _ c.in_err-put_form.ensures c.from_residual-in_err-put_form.ensures))

pub returns-in_err-put_logs : goal.returns-in_err-put_logs
unfolding about_list
returns-in_err-put_logs g c =
    writes_then c.in_ok-put.ensures
    (writes_then c.in_ok-put_projector.ensures
    (writes_then c.in_ok-put_form.ensures
    (writes_fails _ c.in_err-put_logs.ensures c.from_residual-in_err-put_logs.ensures)))

pub returns : goal.returns
unfolding about_list
returns g c =
    writes_then c.in_ok-put.ensures
    (writes_then c.in_ok-put_projector.ensures
    (writes_then c.in_ok-put_form.ensures
    (writes_then c.in_ok-put_logs.ensures c.put-2.ensures)))
