-- Lengths that do not add up name nothing, which is right where none is wanted.
use Rattle.std.proofs.lemmas.Grind.{common_steps}
use Rattle.std.proofs.Common.{arith}
use Rattle.record.proofs.CutNames.{none_wanted, total_next, name_here, one_cut, one_gathered, length-cut_by, all_cut}
use Rattle.record.proofs.CutNames.{all_named}
use Rattle.record.proofs.names.are_names.Goals as goal

pub returns-then-bytes-at : goal.returns-then-bytes-at
returns-then-bytes-at c = grind (arith, none_wanted, total_next)

pub loop-n-preserved : goal.loop-n-preserved
loop-n-preserved c = grind (arith, common_steps, name_here, length-cut_by, one_cut, one_gathered)

pub returns-then-at-bytes : goal.returns-then-at-bytes
returns-then-at-bytes c = grind (arith, none_wanted, all_cut)

pub returns-then-lengths-count : goal.returns-then-lengths-count
returns-then-lengths-count c =
    let p = c.loop-n.invariant in
    grind (arith, all_named _ _ p.0 c.args.count p.1 (omega arith) c.if-at-bytes.false)

pub returns-else-lengths-count : goal.returns-else-lengths-count
returns-else-lengths-count c =
    let p = c.loop-n.invariant in
    grind (arith, all_named _ _ p.0 c.args.count p.1 (omega arith) c.if-at-bytes.false)
