use Rattle.std.proofs.Common.{arith}
use Rattle.record.proofs.Marks.{none_backed, turn_named, one_backed, placed_below}
use Rattle.record.proofs.inputs.are_new.Goals as goal

pub loop-j-init : goal.loop-j-init
loop-j-init c = none_backed _ _ c.requires

pub input_index-k-requires : goal.input_index-k-requires
input_index-k-requires c = turn_named _ _ c.loop-j.invariant c.requires (omega arith)

pub bounds-seen-k : goal.bounds-seen-k
bounds-seen-k c =
    rw c.input_index-k.ensures (placed_below c.args.class _ _
    (turn_named _ _ c.loop-j.invariant c.requires (omega arith)))

pub bounds-seen-k-in-loop-j : goal.bounds-seen-k-in-loop-j
bounds-seen-k-in-loop-j c =
    rw c.input_index-k.ensures (placed_below c.args.class _ _
    (turn_named _ _ c.loop-j.invariant c.requires (omega arith)))

pub loop-j-preserved : goal.loop-j-preserved
loop-j-preserved c = search (arith, turn_named, one_backed)
