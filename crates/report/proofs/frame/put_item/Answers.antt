use Rattle.textio.proofs.Fronts.{writes_then, writes_fails}
use Rattle.report.specs.Frame.{about_item}
use Rattle.report.proofs.frame.put_item.Goals as goal

pub returns-in_err-put : goal.returns-in_err-put
unfolding about_item
returns-in_err-put g c =
    writes_fails _ c.in_err-put.ensures c.from_residual.ensures

pub returns-in_err-put_word : goal.returns-in_err-put_word
unfolding about_item
returns-in_err-put_word g c =
    writes_then c.in_ok-put.ensures
    (writes_fails _ c.in_err-put_word.ensures c.from_residual-in_err-put_word.ensures)

pub returns-in_err-put-2 : goal.returns-in_err-put-2
unfolding about_item
returns-in_err-put-2 g c =
    writes_then c.in_ok-put.ensures
    (writes_then c.in_ok-put_word.ensures
    (writes_fails _ c.in_err-put-2.ensures c.from_residual-in_err-put-2.ensures))

pub returns-in_err-put_html : goal.returns-in_err-put_html
unfolding about_item
returns-in_err-put_html g c =
    writes_then c.in_ok-put.ensures
    (writes_then c.in_ok-put_word.ensures
    (writes_then c.in_ok-put-2.ensures
    (writes_fails _ c.in_err-put_html.ensures c.from_residual-in_err-put_html.ensures)))

pub returns : goal.returns
unfolding about_item
returns g c =
    writes_then c.in_ok-put.ensures
    (writes_then c.in_ok-put_word.ensures
    (writes_then c.in_ok-put-2.ensures
    (writes_then c.in_ok-put_html.ensures c.put-3.ensures)))
