-- Nothing is no answer to a command (RULES, Controller).
-- Assumes nothing.
use Rattle.pjlink.specs.declared.command.Command.{Command}
use Rattle.pjlink.specs.Said.{nothing}
use Rattle.pjlink.specs.declared.body.AnswerKind.{AnswerKind}
use Rattle.pjlink.specs.CanSay.{CanSay, tells, IsOfKind}

nothing_of_no_kind : {k : AnswerKind} → IsOfKind k nothing → ⊥
nothing_of_no_kind of = elim of [ ]

pub cannot_say_nothing : {c : Command} → CanSay c nothing → ⊥
cannot_say_nothing (tells asks of) = nothing_of_no_kind of
