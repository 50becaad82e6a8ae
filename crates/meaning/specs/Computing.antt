-- One name that opens this crate's definitions, for computing on concrete records only (RULES, Commands).
-- Assumes nothing.
use Rattle.meaning.specs.SetUpInputs.{inputs_of_pairs, index_in}
use Rattle.meaning.specs.Meaning.{lamps_said, after_power, level_after, answer_for, after_request}

unfoldable pub computing : Unit {0}
unfolding inputs_of_pairs index_in lamps_said after_power level_after answer_for after_request
computing = tt
