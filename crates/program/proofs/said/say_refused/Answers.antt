use Rattle.textio.proofs.Fronts.{writes_then, writes_fails}
use Rattle.program.proofs.said.say_refused.Goals as goal

pub returns-in_err-put_four : goal.returns-in_err-put_four
returns-in_err-put_four g c =
    writes_fails _ (rw c.number_text.ensures at c.in_err-put_four.ensures) c.from_residual.ensures

pub returns : goal.returns
returns g c = writes_then (rw c.number_text.ensures at c.in_ok-put_four.ensures) c.fill.ensures
