-- After k turns p is q after the first k blocks.
use Rattle.std.proofs.Common.{◌≡◌}
use Rattle.digest.specs.Md5.{blocks_of}
use Rattle.digest.proofs.block.blocks.Given as goal

abbrev pub invariant-loop-k : goal.invariant-loop-k
invariant-loop-k l = l.p ≡ blocks_of l.k l.s l.fn.q
