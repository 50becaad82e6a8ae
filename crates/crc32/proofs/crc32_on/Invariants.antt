-- The remainder of the bytes that the loops have passed: the sixteens, then the fours, and then what is left.
use Rattle.std.proofs.Common.{◌≡◌, take, bit_xor}
use Rattle.crc32.specs.Crc.{all_ones, remainder_on}
use Rattle.crc32.proofs.ByChunks.{remainder_over}
use Rattle.crc32.proofs.crc32_on.Given as goal

abbrev pub invariant-loop-sixteen : goal.invariant-loop-sixteen
invariant-loop-sixteen l = l.r ≡ remainder_over (bit_xor all_ones l.sum) (take l.sixteen-index l.sixteens)

abbrev pub invariant-loop-a : goal.invariant-loop-a
invariant-loop-a l = l.r ≡ remainder_over l.initial.r (take l.a-index l.fours)

abbrev pub invariant-loop-b : goal.invariant-loop-b
invariant-loop-b l = l.r ≡ remainder_on l.initial.r (take l.b-index l.rest)
