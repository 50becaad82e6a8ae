use Rattle.std.proofs.Common.{◌≡◌, length, map}
use Rattle.command.specs.Asked.{seen_in, begun, read_on}
use Rattle.command.proofs.asked.command_of.Given as loop

abbrev pub invariant-loop-left : loop.invariant-loop-left
invariant-loop-left g l = read_on l.has_page (seen_in l.reading) (map g.S.AsStr.text l.left)
    ≡ read_on l.has_page begun (map g.S.AsStr.text l.words)

abbrev pub decreases-loop-left : loop.decreases-loop-left
decreases-loop-left g l = length l.left
