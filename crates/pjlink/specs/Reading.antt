-- The parameter of a reply, read for the command that it answers (RULES, Controller and Class 2: the reader does not
-- know the class of the set-up, and takes what either class answers).
-- ERR1 to ERR4 are tested first, alike for every command.
--   p spells t             the bytes p are the text t
--   said_or says o         what `says` makes of a value that was read; nothing if none was
--   text_or t p            the text p if it is legal, else nothing
--   read_queried k p       the value in p, where the answer is of the kind k
--   read_value c p         what p says to c if it is no refusal: OK to a set, the value to a query
--   refusal_or c o m       the refusal in o if c allows it, and nothing if not; without a refusal, m
--   read_parameter c p     what p says to c
-- Assumes nothing.
use Rattle.std.specs.Prelude.{ℕ, Bool, List, Option, Some, None, if◌then◌else◌, codes}
use Rattle.text.specs.Scans.{is_same_by, itself}
use Rattle.words.specs.Codec.{whole_value}
use Rattle.words.specs.Joined.{list_read}
use Rattle.words.specs.Powers.{power_read, switch_read}
use Rattle.words.specs.Inputs.{input_read}
use Rattle.words.specs.Muting.{mutes_read}
use Rattle.words.specs.ErrorDigits.{errors_read}
use Rattle.words.specs.Lamps.{lamp_read}
use Rattle.words.specs.Classes.{class_read}
use Rattle.words.specs.Refusing.{error_reply_digit, error_reply_read}
use Rattle.words.specs.declared.error_reply.ErrorReply.{ErrorReply}
use Rattle.pjlink.specs.Commands.{body_of}
use Rattle.pjlink.specs.declared.command.Command.{Command}
use Rattle.pjlink.specs.declared.body.AnswerKind.{AnswerKind}
use Rattle.pjlink.specs.declared.body.AnswerKind.TheVariants as kind
use Rattle.pjlink.specs.Bodies.{kind_of}
use Rattle.pjlink.specs.Said.{Said, okay, refused, power_is, chosen_is, mutes_are, errors_are, lamps_are, inputs_are}
use Rattle.pjlink.specs.Said.{text_is, class_is, freeze_is, nothing}
use Rattle.pjlink.specs.Carried.{lamps_carried, inputs_carried}
use Rattle.pjlink.specs.CanSay.{is_set, is_refusal_to, is_text_by}

infix 40 ◌spells◌
abbrev pub ◌spells◌ : List ℕ → List ℕ → Bool
p spells t = is_same_by itself p t

abbrev pub said_or : {A : Type 0} → (A → Said) → Option A → Said
said_or says None = nothing
said_or says (Some x) = says x

abbrev pub text_or : Bool → List ℕ → Said
text_or legal p = if legal then text_is p else nothing

abbrev pub read_ok : List ℕ → Said
read_ok p = if p spells codes "OK" then okay else nothing

abbrev pub read_queried : AnswerKind → List ℕ → Said
read_queried kind.Power p = said_or power_is (whole_value power_read p)
read_queried kind.Input p = said_or chosen_is (whole_value input_read p)
read_queried kind.Mutes p = said_or (λ m. mutes_are m.video m.audio) (whole_value mutes_read p)
read_queried kind.Errors p = said_or errors_are (whole_value errors_read p)
read_queried kind.Lamps p = said_or lamps_are (list_read lamp_read lamps_carried p)
read_queried kind.Inputs p = said_or inputs_are (list_read input_read inputs_carried p)
read_queried (kind.Text r) p = text_or (is_text_by r p) p
read_queried kind.Class p = said_or class_is (whole_value class_read p)
read_queried kind.Freeze p = said_or freeze_is (whole_value switch_read p)
read_queried kind.Nothing p = nothing

abbrev pub read_value : Command → List ℕ → Said
read_value c p = if is_set c then read_ok p else read_queried (kind_of (body_of c)) p

abbrev pub refusal_or : Command → Option ErrorReply → Said → Said
refusal_or c None m = m
refusal_or c (Some r) m = if is_refusal_to c (error_reply_digit r) then refused (error_reply_digit r) else nothing

unfoldable pub read_parameter : Command → List ℕ → Said
read_parameter c p = refusal_or c (whole_value error_reply_read p) (read_value c p)
