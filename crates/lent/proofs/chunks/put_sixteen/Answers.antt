use Rattle.std.proofs.Common.{arith, List, ℕ, take, drop, length-drop, length-take-le}
use Rattle.lent.proofs.InChunks.{stored_at_once}
use Rattle.lent.proofs.chunks.put_sixteen.Goals as goal

pub returns : goal.returns
returns c =
    let rest : List ℕ = drop c.args.i c.args.src.now in
    stored_at_once c.args.at c.args.out.now (take 16 rest)
    (omega (arith, length-take-le 16 rest (omega (arith, length-drop c.args.i c.args.src.now))))
