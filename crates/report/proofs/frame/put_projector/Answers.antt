use Rattle.textio.proofs.Fronts.{writes_then, writes_fails}
use Rattle.report.specs.Frame.{projector_text}
use Rattle.report.proofs.frame.put_projector.Goals as goal

pub returns-in_err-put_item_if : goal.returns-in_err-put_item_if
unfolding projector_text
returns-in_err-put_item_if g c =
    writes_fails _ c.in_err-put_item_if.ensures c.from_residual.ensures

pub returns-in_err-put_item_if-2 : goal.returns-in_err-put_item_if-2
unfolding projector_text
returns-in_err-put_item_if-2 g c =
    writes_then c.in_ok-put_item_if.ensures
    (writes_fails _ c.in_err-put_item_if-2.ensures c.from_residual-in_err-put_item_if-2.ensures)

pub returns : goal.returns
unfolding projector_text
returns g c =
    writes_then c.in_ok-put_item_if.ensures
    (writes_then c.in_ok-put_item_if-2.ensures c.put_item_if-3.ensures)
