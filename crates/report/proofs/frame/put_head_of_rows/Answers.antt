use Rattle.std.proofs.Common.{subst}
use Rattle.textio.specs.Fronts.{WritesText}
use Rattle.textio.proofs.Fronts.{writes_then, writes_fails}
use Rattle.report.specs.Frame.{head_of_rows}
use Rattle.report.proofs.frame.put_head_of_rows.Goals as goal

pub returns-in_err-put : goal.returns-in_err-put
unfolding head_of_rows
returns-in_err-put g c =
    writes_fails _ c.in_err-put.ensures c.from_residual.ensures

pub returns-in_err-put_word : goal.returns-in_err-put_word
unfolding head_of_rows
returns-in_err-put_word g c =
    writes_then c.in_ok-put.ensures
    (writes_fails _ (subst (WritesText _ _ _ _) c.head_words-words.ensures c.in_err-put_word.ensures)
    c.from_residual-in_err-put_word.ensures)

pub returns : goal.returns
unfolding head_of_rows
returns g c =
    writes_then c.in_ok-put.ensures
    (writes_then (subst (WritesText _ _ _ _) c.head_words-words.ensures c.in_ok-put_word.ensures) c.put-2.ensures)
