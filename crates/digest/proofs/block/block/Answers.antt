-- Two rounds and two rounds are the 64 operations.
use Rattle.std.proofs.Common.{ap, ◌∙◌}
use Rattle.digest.specs.Rounds.{operations, buffer_sum, block_of}
use Rattle.digest.proofs.Rows.{operations-operations}
use Rattle.digest.proofs.block.block.Goals as goal

pub returns : goal.returns
unfolding block_of
returns c =
    c.add.ensures
    ∙ ap (buffer_sum _)
    (c.last_two-p.ensures _ c.sums-sums.ensures
    ∙ ap (operations 32 32 _) (c.first_two-p.ensures _ c.sums-sums.ensures)
    ∙ operations-operations _ _)
