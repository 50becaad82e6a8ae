use Rattle.std.proofs.Common.{arith}
use Rattle.words.proofs.ListSteps.{list_step}
use Rattle.words.proofs.list.parse_list.Goals as goal

pub loop-k-preserved : goal.loop-k-preserved
loop-k-preserved g c =
    let after = c.in_ok-x.after.now in
    let here = list_step g.T.Wire.read c.loop-k.xs.items g.row.N c.loop-k._k c.loop-k.rest.now (omega arith)
    c.in_ok-x.x after in
    let step = here (grind arith) (omega arith) (omega arith) in
    grind (arith, step)

pub returns-in-empty : goal.returns-in-empty
returns-in-empty g c = grind arith

pub returns-in_default : goal.returns-in_default
returns-in_default g c = grind arith

pub returns-in_err-x : goal.returns-in_err-x
returns-in_err-x g c = grind arith
