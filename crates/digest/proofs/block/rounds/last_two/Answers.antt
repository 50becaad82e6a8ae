-- The rows of rounds 3 and 4 are the 32 operations from 32 on.
use Rattle.std.proofs.Common.{◌∙◌}
use Rattle.digest.proofs.Rows.{eight_rows, last_rows}
use Rattle.digest.proofs.block.rounds.last_two.Goals as goal

pub returns : goal.returns
returns c xs sums =
    eight_rows 32 _ _ (c.row-q.ensures xs sums) (c.row-q-2.ensures xs sums) (c.row-q-3.ensures xs sums)
    (c.row-q-4.ensures xs sums) (c.row-q-5.ensures xs sums) (c.row-q-6.ensures xs sums) (c.row-q-7.ensures xs sums)
    (c.row.ensures xs sums)
    ∙ last_rows _ _
