use Rattle.std.proofs.Common.{arith, ap, ◌∙◌}
use Rattle.meaning.specs.SetUpInputs.{inputs_of_pairs}
use Rattle.std.proofs.lemmas.List.{take_all}
use Rattle.meaning.proofs.InputsByPlace.{named_in_pairs}
use Rattle.meaning.proofs.inputs.pairs_of.Goals as goal

pub returns-clause-inputs : goal.returns-clause-inputs
returns-clause-inputs c =
    named_in_pairs c.first-used.result.now c.as_chunks.result.0.now c.as_chunks.ensures.front
    ∙ ap inputs_of_pairs (grind (arith, take_all))
