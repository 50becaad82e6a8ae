use Rattle.digest.proofs.Rows.{four_operations}
use Rattle.digest.proofs.block.rounds.row.Goals as goal

pub returns : goal.returns
returns c xs sums =
    four_operations c.args.i xs c.args.q (c.operate-q.ensures xs sums) (c.operate-q-2.ensures xs sums)
    (c.operate-q-3.ensures xs sums) (c.operate.ensures xs sums)
