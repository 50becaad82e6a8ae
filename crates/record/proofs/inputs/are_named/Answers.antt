use Rattle.std.proofs.Common.{arith, drop_of_length-le}
use Rattle.record.proofs.Pairs.{named_in_pairs}
use Rattle.record.proofs.inputs.are_named.Goals as goal

pub returns : goal.returns
returns c =
    let pairs = c.as_chunks.result.0.now in
    grind (
      arith,
      named_in_pairs c.args.class c.args.s.now pairs c.as_chunks.ensures.front,
      drop_of_length-le pairs,
    )
