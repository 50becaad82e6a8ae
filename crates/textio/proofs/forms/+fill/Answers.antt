-- The text before the gap, the number, and the rest.
use Rattle.std.proofs.Common.{arith, ◌∙◌}
use Rattle.std.proofs.lemmas.List.{take_rest}
use Rattle.textio.proofs.FormsFilled.{form_filled_first, form_filled_empty}
use Rattle.textio.proofs.Fronts.{writes_then, writes_fails}
use Rattle.textio.proofs.forms.+fill.Goals as goal

pub returns-in-empty : goal.returns-in-empty
returns-in-empty g t c = grind (arith, form_filled_empty)

pub returns-in_err-put-in-len1-up : goal.returns-in_err-put-in-len1-up
returns-in_err-put-in-len1-up g t c =
    let before = rw (c.as_bytes-in-len1-up.ensures.value ∙ c.cut.ensures.before) at c.in_err-put-in-len1-up.ensures in
    rw (form_filled_first c.args.form.now c.args.numbers.now c.in-len1-up.len_at_least)
    (writes_fails _ before c.from_residual.ensures)

pub returns-in_err-put_number-in-len1-up : goal.returns-in_err-put_number-in-len1-up
returns-in_err-put_number-in-len1-up g t c =
    let before = rw (c.as_bytes-in-len1-up.ensures.value ∙ c.cut.ensures.before) at c.in_ok-put-in-len1-up.ensures in
    rw (form_filled_first c.args.form.now c.args.numbers.now c.in-len1-up.len_at_least)
    (writes_then before
    (writes_fails _ c.in_err-put_number-in-len1-up.ensures c.from_residual-in_err-put_number-in-len1-up.ensures))

pub returns-in_ok-put_number-in-len1-up : goal.returns-in_ok-put_number-in-len1-up
returns-in_ok-put_number-in-len1-up g t c =
    let before = rw (c.as_bytes-in-len1-up.ensures.value ∙ c.cut.ensures.before) at c.in_ok-put-in-len1-up.ensures in
    let rest = rw (c.cut.ensures.after, take_rest c.args.numbers.now 1) at c.fill.ensures in
    rw (form_filled_first c.args.form.now c.args.numbers.now c.in-len1-up.len_at_least)
    (writes_then before (writes_then c.in_ok-put_number-in-len1-up.ensures rest))
