use Rattle.std.proofs.Common.{◌≡◌, ◌-◌, length}
use Rattle.words.specs.Joined.{list_read}
use Rattle.words.proofs.ListSteps.{after_those}
use Rattle.words.proofs.list.parse_list.Given as goal

abbrev pub invariant-loop-k : goal.invariant-loop-k
invariant-loop-k g l =
    (length l.xs.items ≡ l._k)
    × (list_read g.T.Wire.read g.row.N l.fn.bytes
    ≡ after_those l.xs.items (list_read g.T.Wire.read (g.row.N - l._k) l.rest))
