-- An answer of the code, as what it says (RULES, What the product holds).
--   lamps_carried     how many lamps an answer has at most, and inputs_carried how many inputs (RULES, Controller:
--                     "INST allows 1 to 32 inputs, repeats included, LAMP 1 to 8 lamps"). What a set-up may have,
--                     crate `record` says
--   errors_carried    how many error digits an answer has
--   answer_said a     what an answer says
--   said_by r         what a reply says: an answer or a refusal
--   value_said o      what an answer says, where one was read; nothing else says nothing
--   parameter_said o  what a reply says, where one was read; nothing else says nothing
-- Assumes nothing.
use Rattle.std.specs.Prelude.{ℕ, Option, Some, None, Result, Ok, Err}
use Rattle.pjlink.specs.Said.{Said, okay, refused, power_is, chosen_is, mutes_are, errors_are, lamps_are, inputs_are}
use Rattle.pjlink.specs.Said.{text_is, class_is, freeze_is, nothing}
use Rattle.words.specs.declared.error_reply.ErrorReply.{ErrorReply}
use Rattle.words.specs.Refusing.{error_reply_digit}
use Rattle.pjlink.specs.declared.answer.Answer.{Answer}
use Rattle.pjlink.specs.declared.answer.Answer.TheVariants as an

abbrev pub lamps_carried : ℕ
lamps_carried = 8

abbrev pub inputs_carried : ℕ
inputs_carried = 32

abbrev pub errors_carried : ℕ
errors_carried = 6

abbrev pub answer_said : Answer → Said
answer_said an.Done = okay
answer_said (an.Power p) = power_is p
answer_said (an.Input i) = chosen_is i
answer_said (an.Mutes mutes) = mutes_are mutes.video mutes.audio
answer_said (an.Errors status) = errors_are status.digits
answer_said (an.Lamps lamps) = lamps_are lamps.items
answer_said (an.Inputs inputs) = inputs_are inputs.items
answer_said (an.Text text) = text_is text.now
answer_said (an.Class class) = class_is class
answer_said (an.Freeze on) = freeze_is on

abbrev pub said_by : Result Answer ErrorReply → Said
said_by (Ok a) = answer_said a
said_by (Err r) = refused (error_reply_digit r)

abbrev pub value_said : Option Answer → Said
value_said None = nothing
value_said (Some a) = answer_said a

abbrev pub parameter_said : Option (Result Answer ErrorReply) → Said
parameter_said None = nothing
parameter_said (Some r) = said_by r
