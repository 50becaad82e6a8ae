-- The commands that the writer can write, and their lines (PJLink 1.04, 2.1 and 4.1 to 4.14; RULES, Commands and Class
-- 2).
--   body_text b          the four letters of a body
--   body_of c            the body of a command
--   command_class c      the class of its line; class_digit k is the character of Class k
--   half_code h          the character of what AVMT mutes; half_text h writes it, and half_read reads it
--   parameter_of c       its parameter: `?` asks, anything else sets (of a step, 1 is up and 0 is down); INNM's names
--                        the input that is asked for
--   is_command c         a command whose line can be written: two characters name its input, `?` asks its body
--   command_text c       its line without CR: `%` and the class, the body, a space, the parameter
--   command_line c       its line: that and CR
-- Assumes nothing.
use Rattle.std.specs.Prelude.{Bool, true, List, [], ◌∷◌, ◌++◌, ℕ, ◌+◌, Option, codes}
use Prim.Native.Char.{code}
use Rattle.words.specs.Codec.{first_named, letter}
use Rattle.words.specs.Inputs.{is_input, input_text}
use Rattle.words.specs.Powers.{switch_code}
use Rattle.pjlink.specs.Bodies.{row_of, class_of, has_query}
use Rattle.pjlink.specs.declared.body.Body.{Body}
use Rattle.pjlink.specs.declared.body.Body.TheVariants.{Powr, Inpt, Avmt, Frez, Svol, Mvol, Innm}
use Rattle.pjlink.specs.declared.command.Half.{Half}
use Rattle.pjlink.specs.declared.command.Half.TheVariants.{VideoHalf, AudioHalf, BothHalves}
use Rattle.pjlink.specs.declared.command.Volume.{Volume}
use Rattle.pjlink.specs.declared.command.Volume.TheVariants.{Speaker, Microphone}
use Rattle.pjlink.specs.declared.command.Command.{Command}
use Rattle.pjlink.specs.declared.command.Command.TheVariants.{PowerSet, InputSet, MuteSet, FreezeSet}
use Rattle.pjlink.specs.declared.command.Command.TheVariants.{VolumeStep, NameQuery, Query}

abbrev pub body_text : Body → List ℕ
body_text b = (row_of b).letters

abbrev pub volume_body : Volume → Body
volume_body Speaker = Svol
volume_body Microphone = Mvol

abbrev pub body_of : Command → Body
body_of (PowerSet on) = Powr
body_of (InputSet k i) = Inpt k
body_of (MuteSet h on) = Avmt
body_of (FreezeSet on) = Frez
body_of (VolumeStep v up) = volume_body v
body_of (NameQuery i) = Innm
body_of (Query b) = b

abbrev pub command_class : Command → ℕ
command_class c = class_of (body_of c)

abbrev pub class_digit : ℕ → ℕ
class_digit k = code "0" + k

-- 1 video, 2 audio, 3 both
abbrev pub half_code : Half → ℕ
half_code VideoHalf = code "1"
half_code AudioHalf = code "2"
half_code BothHalves = code "3"

abbrev pub all_halves : List Half
all_halves = VideoHalf ∷ AudioHalf ∷ BothHalves ∷ []

abbrev pub half_text : Half → List ℕ
half_text h = half_code h ∷ []

abbrev pub half_named : ℕ → Option Half
half_named b = first_named half_code all_halves b

abbrev pub half_read : List ℕ → Option (Half × List ℕ)
half_read s = letter half_named s

abbrev pub parameter_of : Command → List ℕ
parameter_of (PowerSet on) = switch_code on ∷ []
parameter_of (InputSet k i) = input_text i
parameter_of (MuteSet h on) = half_code h ∷ switch_code on ∷ []
parameter_of (FreezeSet on) = switch_code on ∷ []
parameter_of (VolumeStep v up) = switch_code up ∷ []
parameter_of (NameQuery i) = codes "?" ++ input_text i
parameter_of (Query b) = codes "?"

abbrev pub is_command : Command → Bool
is_command (PowerSet on) = true
is_command (InputSet k i) = is_input i
is_command (MuteSet h on) = true
is_command (FreezeSet on) = true
is_command (VolumeStep v up) = true
is_command (NameQuery i) = is_input i
is_command (Query b) = has_query b

abbrev pub command_text : Command → List ℕ
command_text c = codes "%" ++ (class_digit (command_class c) ∷ body_text (body_of c)) ++ codes " " ++ parameter_of c

abbrev pub command_line : Command → List ℕ
command_line c = command_text c ++ codes "\r"
