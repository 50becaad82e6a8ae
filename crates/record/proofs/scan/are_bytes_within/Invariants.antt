use Rattle.text.proofs.Scanning.{Gathered}
use Rattle.record.specs.Rules.{is_at_most}
use Rattle.record.proofs.scan.are_bytes_within.Given as goal

abbrev pub invariant-loop-x : goal.invariant-loop-x
invariant-loop-x l = Gathered (is_at_most l.most) l.bytes l.x-index l.ok
