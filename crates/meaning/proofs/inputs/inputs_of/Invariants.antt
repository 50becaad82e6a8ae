-- The inputs of the pairs passed.
use Rattle.std.proofs.Common.{◌≡◌, map, take}
use Rattle.meaning.specs.SetUpInputs.{pair_input}
use Rattle.meaning.proofs.inputs.inputs_of.Given as goal

abbrev pub invariant-loop-a : goal.invariant-loop-a
invariant-loop-a l = l.inputs.items ≡ map pair_input (take l.a-index l.pairs)
