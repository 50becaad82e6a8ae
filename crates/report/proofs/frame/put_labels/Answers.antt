use Rattle.std.proofs.Common.{subst}
use Rattle.textio.specs.Fronts.{WritesText}
use Rattle.textio.proofs.Fronts.{writes_then, writes_fails}
use Rattle.report.proofs.frame.put_labels.Goals as goal

pub returns-in_err-put_word : goal.returns-in_err-put_word
returns-in_err-put_word g c =
    writes_fails _ (subst (WritesText _ _ _ _) c.label_words-words.ensures c.in_err-put_word.ensures)
    c.from_residual.ensures

pub returns : goal.returns
returns g c =
    writes_then (subst (WritesText _ _ _ _) c.label_words-words.ensures c.in_ok-put_word.ensures) c.put.ensures
