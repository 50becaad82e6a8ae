-- What a received class, body and parameter ask for (RULES, Commands: bodies without regard to case, parameters
-- exactly; RULES, Class 2: each body under its own class).
--   mute_of p              the mute that p asks for: what is muted, and 0 or 1
--   set_of k set p         the command that the parameter p makes of a body of Class k that sets this, or none
--   command_of b p         the command that the parameter p makes of the body b, or none
--   Request                what a line asks for:
--                            Ok c                 the command c
--                            Err (Unlisted b)     the body b, with a parameter that is neither its query nor one that
--                                                 it knows
--                            Err UnknownBody      no body of the line's class
--   or_unlisted b m        the request that the command m of the body b is; without a command, the body's Unlisted
--   asked_of b p           the request of the body b with the parameter p
--   request_of k s p       what the body s with the parameter p asks for in a line of Class k
-- Assumes nothing.
use Rattle.std.specs.Prelude.{ℕ, Bool, ◌&&◌, List, length, drop, if◌then◌else◌}
use Rattle.std.specs.Prelude.{Option, Some, None, Result, Ok, Err, ◌==◌}
use Rattle.std.specs.Option.{option_map}
use Rattle.text.specs.Words.{◌is◌}
use Rattle.words.specs.Bytes.{◌at◌}
use Rattle.words.specs.Codec.{whole_value, pair_of}
use Rattle.words.specs.Inputs.{input_of}
use Rattle.words.specs.Powers.{switch_read}
use Rattle.words.specs.declared.class.ClassNumber.{ClassNumber}
use Rattle.pjlink.specs.Bodies.{row_of, body_named, has_query}
use Rattle.pjlink.specs.Commands.{half_read}
use Rattle.pjlink.specs.declared.body.Body.{Body}
use Rattle.pjlink.specs.declared.command.Volume.TheVariants.{Speaker, Microphone}
use Rattle.pjlink.specs.declared.command.Command.{Command}
use Rattle.pjlink.specs.declared.command.Command.TheVariants.{PowerSet, InputSet, MuteSet, FreezeSet}
use Rattle.pjlink.specs.declared.command.Command.TheVariants.{VolumeStep, NameQuery, Query}
use Rattle.pjlink.specs.declared.body.Sets.{Sets}
use Rattle.pjlink.specs.declared.body.Sets.TheVariants.{SetsPower, SetsInput, SetsMute, SetsFreeze}
use Rattle.pjlink.specs.declared.body.Sets.TheVariants.{StepsSpeaker, StepsMicrophone, NamesInput, QueryOnly}
use Rattle.pjlink.specs.declared.request.Unasked.{Unasked}
use Rattle.pjlink.specs.declared.request.Unasked.TheVariants.{Unlisted, UnknownBody}

-- AVMT: 10 11 20 21 30 31
abbrev pub mute_of : List ℕ → Option Command
mute_of p = whole_value (pair_of MuteSet half_read switch_read) p

-- INNM: `?` and two characters that name an input
unfoldable pub name_query_of : List ℕ → Option Command
name_query_of p = if p at 0 is "?" then option_map NameQuery (input_of (drop 1 p)) else None

-- POWR, FREZ: off and on; SVOL, MVOL: down and up; INPT: two characters that name an input
abbrev pub set_of : ClassNumber → Sets → List ℕ → Option Command
set_of k SetsPower p = option_map PowerSet (whole_value switch_read p)
set_of k SetsInput p = option_map (InputSet k) (input_of p)
set_of k SetsMute p = mute_of p
set_of k SetsFreeze p = option_map FreezeSet (whole_value switch_read p)
set_of k StepsSpeaker p = option_map (VolumeStep Speaker) (whole_value switch_read p)
set_of k StepsMicrophone p = option_map (VolumeStep Microphone) (whole_value switch_read p)
set_of k NamesInput p = name_query_of p
set_of k QueryOnly p = None

abbrev pub is_question : List ℕ → Bool
is_question p = length p == 1 && p at 0 is "?"

abbrev pub command_of : Body → List ℕ → Option Command
command_of b p = if has_query b && is_question p then Some (Query b) else set_of (row_of b).class (row_of b).set p

abbrev pub Request : Type 0
Request = Result Command Unasked

abbrev pub or_unlisted : Body → Option Command → Request
or_unlisted b (Some c) = Ok c
or_unlisted b None = Err (Unlisted b)

unfoldable pub asked_of : Body → List ℕ → Request
asked_of b p = or_unlisted b (command_of b p)

abbrev pub body_request : Option Body → List ℕ → Request
body_request (Some b) p = asked_of b p
body_request None p = Err UnknownBody

unfoldable pub request_of : ℕ → List ℕ → List ℕ → Request
request_of k s p = body_request (body_named k s) p
