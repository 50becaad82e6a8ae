use Rattle.textio.proofs.Fronts.{writes_then, writes_fails}
use Rattle.report.proofs.table.put_span.Goals as goal

pub returns-in_err-put_instant : goal.returns-in_err-put_instant
returns-in_err-put_instant g c =
    writes_fails _ c.in_err-put_instant.ensures c.from_residual.ensures

pub returns-in_err-put_word : goal.returns-in_err-put_word
returns-in_err-put_word g c =
    writes_then c.in_ok-put_instant.ensures
    (writes_fails _ c.in_err-put_word.ensures c.from_residual-in_err-put_word.ensures)

pub returns : goal.returns
returns g c =
    writes_then c.in_ok-put_instant.ensures
    (writes_then c.in_ok-put_word.ensures c.put_instant-2.ensures)
