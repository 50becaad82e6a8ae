use Rattle.std.proofs.Common.{◌+◌, ◌*◌, ◌<◌, ◌∙◌, length, arith}
use Rattle.std.proofs.lemmas.List.{length-set}
use Rattle.digest.proofs.Sums.{one_more_sum, all_summed}
use Rattle.digest.proofs.block.rounds.sums.Goals as goal

pub loop-k-preserved : goal.loop-k-preserved
loop-k-preserved c =
    let so_far = c.loop-k.invariant in
    let there : 16 * c.loop-round.round + c.loop-k.k < length c.loop-k.sums =
    omega (arith, so_far.long, c.loop-k-test.true, c.loop-round-test.true) in
    record {
      long = length-set _ _ _ ∙ so_far.long;
      summed =
          one_more_sum _ _ _ c.loop-round.round c.loop-k.k _ _ c.loop-k-test.true there c.word_at.ensures
          c.wrapping_add_u32.ensures.value so_far.summed;
    }

pub returns : goal.returns
returns c =
    all_summed _ _ _ (16 * c.loop-round.round) (omega arith) c.constants-constants.ensures
    c.loop-round.invariant.summed
