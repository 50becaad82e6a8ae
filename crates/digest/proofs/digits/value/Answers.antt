use Rattle.std.proofs.Common.{refl, arith}
use Rattle.text.proofs.DigitsRead.{one_read, read_below}
use Rattle.digest.specs.Hex.{hex_worth}
use Rattle.digest.proofs.Laws.{hex_worth_small}
use Rattle.digest.proofs.digits.value.Goals as goal

pub overflow_mul-v : goal.overflow_mul-v
overflow_mul-v c = omega (arith, read_below 16 hex_worth _ _ c.loop-b.invariant 7 (omega arith) (omega arith))

pub overflow_add-v : goal.overflow_add-v
overflow_add-v c =
    let small = read_below 16 hex_worth _ _ c.loop-b.invariant 7 (omega arith) (omega arith) in
    omega (arith, hex_worth_small)

pub loop-b-preserved : goal.loop-b-preserved
loop-b-preserved c =
    rw c.worth.ensures (one_read 16 hex_worth _ _ c.loop-b.invariant c.loop-b-test.true refl (hex_worth_small _))
