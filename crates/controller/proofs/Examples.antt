-- Lines written and read, by computing (PJLink 1.04, 4 and 5.1; RULES, Controller).
-- Assumes nothing.
use Rattle.std.proofs.Common.{◌≡◌, refl, true, false, [], codes}
use Rattle.pjlink.specs.Computing.{computing as pjlink}
use Rattle.pjlink.specs.declared.body.Body.TheVariants.{Powr, Name}
use Rattle.pjlink.specs.declared.command.Command.TheVariants.{PowerSet, Query}
use Rattle.pjlink.specs.Said.{okay, power_is}
use Rattle.words.specs.declared.power.PowerStatus.TheVariants.{WarmUp}
use Rattle.digest.specs.Computing.{computing as digest}
use Rattle.text.specs.Outcomes.{served_as, refused_as}
use Rattle.controller.specs.Writing.{written_command}
use Rattle.controller.specs.declared.writing.Unwritten.TheVariants.{NoRoom}
use Rattle.controller.specs.Reading.{meaning, outcome_alone, read_reply, not_a_line, other_command, disallowed}
use Rattle.controller.specs.Computing.{computing}

pub power_on_written : written_command (PowerSet true) false 0 [] 168
    ≡ served_as tt (codes "%1POWR 1\r") tt
unfolding computing pjlink digest
power_on_written = refl

pub memory_167 : written_command (PowerSet true) false 0 [] 167 ≡ refused_as tt NoRoom
unfolding computing pjlink digest
memory_167 = refl

pub in_any_case : read_reply (PowerSet true) (codes "%1powr=OK\r") ≡ meaning okay
unfolding computing pjlink digest
in_any_case = refl

pub warm_up : read_reply (Query Powr) (codes "%1POWR=3\r") ≡ meaning (power_is WarmUp)
unfolding computing pjlink digest
warm_up = refl

pub err2_is_no_text : read_reply (Query Name) (codes "%1NAME=ERR2\r") ≡ outcome_alone disallowed
unfolding computing pjlink digest
err2_is_no_text = refl

pub another_body : read_reply (Query Powr) (codes "%1INPT=11\r") ≡ outcome_alone other_command
unfolding computing pjlink digest
another_body = refl

pub without_cr : read_reply (Query Powr) (codes "%1POWR=3") ≡ outcome_alone not_a_line
unfolding computing pjlink digest
without_cr = refl

pub ruleset worked_commands = (power_on_written, memory_167)

pub ruleset worked_replies = (in_any_case, warm_up, err2_is_no_text, another_body, without_cr)
