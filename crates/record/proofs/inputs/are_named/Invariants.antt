use Rattle.text.proofs.Scanning.{Gathered}
use Rattle.words.specs.Inputs.{is_input_text}
use Rattle.record.proofs.Pairs.{pair_passes}
use Rattle.record.proofs.inputs.are_named.Given as goal

abbrev pub invariant-loop-a : goal.invariant-loop-a
invariant-loop-a l = Gathered (pair_passes (is_input_text l.class)) l.pairs l.a-index l.ok
