-- What the code has for round 1 is F of b, c and d, and in round 2 the halves of G are added.
use Rattle.std.proofs.Common.{arith}
use Rattle.digest.specs.Rounds.{function_of}
use Rattle.digest.proofs.Chosen.{mixed_is_chosen, halves_added, in_parts}
use Rattle.digest.proofs.block.rounds.function.Goals as goal

pub returns : goal.returns
unfolding function_of
returns c =
    let args = c.args in
    let f = mixed_is_chosen 32 args.b args.c args.d c.ranges.b.fits c.ranges.d.fits in
    let g = halves_added args.b args.c args.d c.ranges.d.fits in
    grind (arith, f, g, in_parts)
