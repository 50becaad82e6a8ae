use Rattle.std.proofs.Common.{arith}
use Rattle.std.proofs.lemmas.List.{take_all}
use Rattle.meaning.proofs.inputs.inputs_of.Goals as goal

pub returns : goal.returns
returns c = grind (arith, take_all)
