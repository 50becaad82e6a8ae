use Rattle.std.proofs.Common.{subst}
use Rattle.textio.specs.Fronts.{WritesText}
use Rattle.textio.proofs.Fronts.{writes_then, writes_fails}
use Rattle.report.specs.Frame.{clock_text}
use Rattle.report.proofs.frame.put_clock.Goals as goal

pub returns-in_err-put_clock_begun : goal.returns-in_err-put_clock_begun
unfolding clock_text
returns-in_err-put_clock_begun g c =
    writes_fails _ c.in_err-put_clock_begun.ensures c.from_residual.ensures

pub returns-in_err-put : goal.returns-in_err-put
unfolding clock_text
returns-in_err-put g c =
    writes_then c.in_ok-put_clock_begun.ensures
    (writes_fails _ c.in_err-put.ensures c.from_residual-in_err-put.ensures)

pub returns-in_err-put_word : goal.returns-in_err-put_word
unfolding clock_text
returns-in_err-put_word g c =
    writes_then c.in_ok-put_clock_begun.ensures
    (writes_then c.in_ok-put.ensures
    (writes_fails _ (subst (WritesText _ _ _ _) c.row_words-words.ensures c.in_err-put_word.ensures)
    c.from_residual-in_err-put_word.ensures))

pub returns : goal.returns
unfolding clock_text
returns g c =
    writes_then c.in_ok-put_clock_begun.ensures
    (writes_then c.in_ok-put.ensures
    (writes_then (subst (WritesText _ _ _ _) c.row_words-words.ensures c.in_ok-put_word.ensures) c.put-2.ensures))
