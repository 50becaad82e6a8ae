-- Lines, requests and replies of both classes, by computing (RULES, Commands, Controller and Class 2).
-- Assumes nothing.
use Rattle.std.proofs.Common.{◌≡◌, refl, true, false, not, [], ◌∷◌, map, codes, Ok, Err, Some, None}
use Rattle.numbers.specs.Computing.{computing as numbers}
use Rattle.words.specs.declared.class.ClassNumber.TheVariants.{One, Two}
use Rattle.words.specs.declared.input.Source.TheVariants.{Internal}
use Rattle.pjlink.specs.declared.body.Body.TheVariants.{Inpt, Lamp, Inst, Clss, Frez, Snum, Svol, Mvol, Innm}
use Rattle.pjlink.specs.declared.command.Volume.TheVariants.{Speaker, Microphone}
use Rattle.pjlink.specs.declared.command.Command.TheVariants.{InputSet, FreezeSet, VolumeStep}
use Rattle.pjlink.specs.declared.command.Command.TheVariants.{NameQuery, Query}
use Rattle.pjlink.specs.declared.request.Unasked.TheVariants.{Unlisted, UnknownBody}
use Rattle.std.specs.List.{filter}
use Rattle.pjlink.specs.Bodies.{bodies, has_query}
use Rattle.pjlink.specs.Commands.{command_line}
use Rattle.pjlink.specs.Forms.{is_command_form}
use Rattle.pjlink.specs.Said.{refused, lamps_are, inputs_are, text_is, class_is, freeze_is, nothing}
use Rattle.pjlink.specs.Reading.{read_parameter}
use Rattle.pjlink.specs.Greetings.{read_greeting}
use Rattle.pjlink.specs.declared.greeting.Greeting.TheVariants.{Secured}
use Rattle.pjlink.specs.Worked.{hdmi, request_to}
use Rattle.pjlink.specs.Computing.{computing}

-- lines of Class 2
pub written : map command_line
    (InputSet Two hdmi ∷ FreezeSet true ∷ VolumeStep Speaker true ∷ VolumeStep Microphone false ∷ NameQuery hdmi
    ∷ Query Snum ∷ [])
    ≡ codes "%2INPT 31\r" ∷ codes "%2FREZ 1\r" ∷ codes "%2SVOL 1\r" ∷ codes "%2MVOL 0\r" ∷ codes "%2INNM ?31\r"
    ∷ codes "%2SNUM ?\r" ∷ []
unfolding computing
written = refl

-- a Class 1 set-up takes no `%2` line, a Class 2 set-up takes both, and none takes `%3`
pub forms_1 : map (is_command_form 1) (codes "%1INST ?" ∷ codes "%2INST ?" ∷ codes "%3INST ?" ∷ [])
    ≡ true ∷ false ∷ false ∷ []
unfolding computing
forms_1 = refl

pub forms_2 : map (is_command_form 2) (codes "%1INST ?" ∷ codes "%2INST ?" ∷ codes "%3INST ?" ∷ [])
    ≡ true ∷ true ∷ false ∷ []
unfolding computing
forms_2 = refl

-- what is asked for under each class: CLSS and POWR are of Class 1 only, SNUM of Class 2 only
pub requests : request_to 1 "INPT" "31" ∷ request_to 2 "inpt" "31" ∷ request_to 2 "INPT" "3a"
    ∷ request_to 1 "INST" "?" ∷ request_to 2 "CLSS" "?" ∷ request_to 1 "SNUM" "?"
    ∷ request_to 2 "SNUM" "1" ∷ request_to 2 "SVOL" "?" ∷ request_to 2 "INNM" "?31"
    ∷ request_to 2 "INNM" "?" ∷ []
    ≡ Ok (InputSet One hdmi) ∷ Ok (InputSet Two hdmi) ∷ Err (Unlisted (Inpt Two))
    ∷ Ok (Query (Inst One)) ∷ Err UnknownBody ∷ Err UnknownBody
    ∷ Err (Unlisted Snum) ∷ Err (Unlisted Svol) ∷ Ok (NameQuery hdmi)
    ∷ Err (Unlisted Innm) ∷ []
unfolding computing
requests = refl

-- `?` alone asks neither a volume nor an input's name
pub unasked : filter (λ b. not (has_query b)) bodies ≡ Svol ∷ Mvol ∷ Innm ∷ []
unasked = refl

-- lamps of other makers: leading zeros are taken, six digits and none are not
pub padded_hours : read_parameter (Query Lamp) (codes "00412 1") ≡ lamps_are (record { hours = 412; lit = true } ∷ [])
unfolding computing numbers
padded_hours = refl

pub five_zeros : read_parameter (Query Lamp) (codes "00000 0") ≡ lamps_are (record { hours = 0; lit = false } ∷ [])
unfolding computing numbers
five_zeros = refl

pub six_zeros : read_parameter (Query Lamp) (codes "000000 0") ≡ nothing
unfolding computing numbers
six_zeros = refl

pub no_hours : read_parameter (Query Lamp) (codes " 0") ≡ nothing
unfolding computing numbers
no_hours = refl

pub each_as_it_is : read_parameter (Query Lamp) (codes "07 1 7 0")
    ≡ lamps_are (record { hours = 7; lit = true } ∷ record { hours = 7; lit = false } ∷ [])
unfolding computing numbers
each_as_it_is = refl

-- the class is 1 or 2, and frozen 0 or 1
pub classes : map (read_parameter (Query Clss)) (codes "1" ∷ codes "2" ∷ codes "3" ∷ codes "12" ∷ [])
    ≡ class_is One ∷ class_is Two ∷ nothing ∷ nothing ∷ []
unfolding computing numbers
classes = refl

pub frozen : map (read_parameter (Query Frez)) (codes "0" ∷ codes "1" ∷ codes "2" ∷ codes "OK" ∷ [])
    ≡ freeze_is false ∷ freeze_is true ∷ nothing ∷ nothing ∷ []
unfolding computing numbers
frozen = refl

-- inputs of Class 2 stand in a `%1` reply too: the reader is not told the class
pub wide_inputs : read_parameter (Query (Inst One)) (codes "31 6B")
    ≡ inputs_are (hdmi ∷ record { source = Internal; number = 11 } ∷ [])
unfolding computing numbers
wide_inputs = refl

-- ERR2 answers the query of an input's name, and no `?`
pub refusals : read_parameter (NameQuery hdmi) (codes "ERR2") ∷ read_parameter (Query Snum) (codes "ERR2")
    ∷ read_parameter (NameQuery hdmi) (codes "HDMI 1") ∷ []
    ≡ refused 2 ∷ nothing ∷ text_is (codes "HDMI 1") ∷ []
unfolding computing numbers
refusals = refl

-- the specification's random number
pub random_heard : read_greeting (codes "PJLINK 1 498e4a67\r") ≡ Some (Secured 1234061927)
unfolding computing
random_heard = refl

pub upper_case_digits : read_greeting (codes "PJLINK 1 498E4A67\r") ≡ None
unfolding computing
upper_case_digits = refl

pub ruleset worked_lines = (written, forms_1, forms_2, requests, unasked, random_heard, upper_case_digits)

pub ruleset worked_parameters =
    (padded_hours, five_zeros, six_zeros, no_hours, each_as_it_is, classes, frozen, wide_inputs, refusals)
