-- The rows of rounds 1 and 2 are the 32 operations from 0 on.
use Rattle.std.proofs.Common.{◌∙◌}
use Rattle.digest.proofs.Rows.{eight_rows, first_rows}
use Rattle.digest.proofs.block.rounds.first_two.Goals as goal

pub returns : goal.returns
returns c xs sums =
    eight_rows 0 _ _ (c.row-q.ensures xs sums) (c.row-q-2.ensures xs sums) (c.row-q-3.ensures xs sums)
    (c.row-q-4.ensures xs sums) (c.row-q-5.ensures xs sums) (c.row-q-6.ensures xs sums) (c.row-q-7.ensures xs sums)
    (c.row.ensures xs sums)
    ∙ first_rows _ _
