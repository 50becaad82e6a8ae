-- What the projector answers to a request, and what the request does to it (RULES, Commands).
--   table_answer s o c    the answer to a command that no rule refuses: the table of RULES, Commands
--   after_command s o c   the own part after the command c
--   input_name_of s i          the name of the input i (RULES, Class 2)
--   level_after up level     the volume `level` one step up or down, which stops at the ends (RULES, Class 2)
--   request_answer s o r, carried_out s o r
--                         answer and own part after the request r without the four rules; a request that is no command
--                         is always refused by them, so its `nothing` is never said
--   answer_for s o r      the answer to the request r
--   after_request s o r   the own part after the request r
-- Assumes nothing.
use Rattle.std.specs.Prelude.{ℕ, ◌+◌, ◌-◌, ◌/◌, Bool, false, not, ◌&&◌, ◌||◌, List, [], ◌∷◌, take}
use Prim.Native.Char.{code}
use Rattle.std.specs.Prelude.{if◌then◌else◌, Ok, Err, slice_index_or, nat_lt, ◌==◌}
use Rattle.words.specs.declared.input.Input.{Input}
use Rattle.pjlink.specs.declared.body.Body.{Body}
use Rattle.pjlink.specs.declared.body.Body.TheVariants.{Powr, Inpt, Avmt, Erst, Lamp, Inst, Name, Inf1, Inf2, Info}
use Rattle.pjlink.specs.declared.body.Body.TheVariants.{Clss, Frez, Svol, Mvol, Snum, Sver, Innm}
use Rattle.pjlink.specs.declared.command.Half.{Half}
use Rattle.pjlink.specs.declared.command.Half.TheVariants.{VideoHalf, AudioHalf, BothHalves}
use Rattle.pjlink.specs.declared.command.Volume.{Volume}
use Rattle.pjlink.specs.declared.command.Volume.TheVariants.{Speaker, Microphone}
use Rattle.pjlink.specs.declared.command.Command.{Command}
use Rattle.pjlink.specs.declared.command.Command.TheVariants.{PowerSet, InputSet, MuteSet, Query}
use Rattle.pjlink.specs.declared.command.Command.TheVariants.{FreezeSet, VolumeStep, NameQuery}
use Rattle.pjlink.specs.Requests.{Request}
use Rattle.pjlink.specs.Said.{Said, okay, refused, power_is, chosen_is, mutes_are, errors_are, lamps_are, inputs_are}
use Rattle.pjlink.specs.Said.{text_is, class_is, freeze_is, nothing}
use Rattle.words.specs.declared.power.PowerStatus.{PowerStatus}
use Rattle.words.specs.declared.power.PowerStatus.TheVariants.{Off, On, Cooling, WarmUp}
use Rattle.words.specs.declared.lamp.LampHours.{LampHours}
use Rattle.record.specs.Limits.{off, on, cooling, warming, is_lit, volume_most}
use Rattle.record.specs.Updates.{with_power_left, with_chosen, with_mutes, with_freeze, with_volumes}
use Rattle.record.specs.Record.{blank_name}
use Rattle.text.specs.Flags.{is_raised, flag_of}
use Rattle.record.specs.Views.{power_seen, class_seen, marks_seen}
use Rattle.record.specs.declared.views.Power.{Power as PowerSeen}
use Rattle.record.specs.declared.views.Power.TheVariants.{Off as SeenOff, WarmUp as SeenWarmUp}
use Rattle.record.specs.declared.views.Power.TheVariants.{On as SeenOn, Cooling as SeenCooling}
use Rattle.record.specs.declared.types.Text.{Text}
use Rattle.record.specs.declared.types.InputName.{InputName}
use Rattle.record.specs.declared.types.Settings.{Settings}
use Rattle.record.specs.declared.types.Own.{Own}
use Rattle.meaning.specs.SetUpInputs.{no_input, inputs_of, listed_index}
use Rattle.meaning.specs.Rules.{is_undefined, is_out_of_parameter, is_failure, is_unavailable}

-- PJLink's numbers: 0 off, 1 on, 2 cooling, 3 warm-up
abbrev pub power_said : PowerSeen → PowerStatus
power_said SeenOff = Off
power_said (SeenWarmUp left) = WarmUp
power_said SeenOn = On
power_said (SeenCooling left) = Cooling

-- the character of a power's number
abbrev pub power_digit : ℕ → ℕ
power_digit n = code "0" + n

abbrev pub chosen_of : Settings → Own → Input
chosen_of s o = slice_index_or (inputs_of s) o.chosen no_input

-- hours are seconds divided by 3,600, rounded down; lit in warm-up or on
abbrev pub lamp_said : Bool → ℕ → LampHours
lamp_said lit seconds = record { hours = seconds / 3600; lit = lit }

-- only an enabled lamp shows as lit (RULES, Lamps)
unfoldable pub lamps_said : Bool → List Bool → List ℕ → List LampHours
lamps_said lit marks [] = []
lamps_said lit [] (x ∷ xs) = lamp_said false x ∷ lamps_said lit [] xs
lamps_said lit (m ∷ marks) (x ∷ xs) = lamp_said (lit && m) x ∷ lamps_said lit marks xs

abbrev pub lamps_of : Settings → Own → List LampHours
lamps_of s o = lamps_said (is_lit o.power) (marks_seen o) (take s.lamp_count o.lamps)

abbrev pub text_said : Text → Said
text_said t = text_is (take t.len t.bytes)

abbrev pub name_bytes : InputName → List ℕ
name_bytes n = take n.len n.bytes

abbrev pub input_name_of : Settings → Input → List ℕ
input_name_of s i = name_bytes (slice_index_or s.names (listed_index s i) blank_name)

-- a body that has no query is never asked one (Rules, `is_no_query`)
abbrev pub query_answer : Settings → Own → Body → Said
query_answer s o Powr = power_is (power_said (power_seen o))
query_answer s o (Inpt k) = chosen_is (chosen_of s o)
query_answer s o Avmt = mutes_are (is_raised o.video_muted) (is_raised o.audio_muted)
query_answer s o Erst = errors_are o.errors
query_answer s o Lamp = lamps_are (lamps_of s o)
query_answer s o (Inst k) = inputs_are (inputs_of s)
query_answer s o Name = text_said s.name
query_answer s o Inf1 = text_said s.maker
query_answer s o Inf2 = text_said s.model
query_answer s o Info = text_said s.other
query_answer s o Clss = class_is (class_seen s)
query_answer s o Frez = freeze_is (is_raised o.frozen)
query_answer s o Svol = nothing
query_answer s o Mvol = nothing
query_answer s o Snum = text_said s.serial
query_answer s o Sver = text_said s.version
query_answer s o Innm = nothing

-- the answer to a set that no rule refuses is OK
abbrev pub table_answer : Settings → Own → Command → Said
table_answer s o (Query b) = query_answer s o b
table_answer s o (NameQuery i) = text_is (input_name_of s i)
table_answer s o c = okay

abbrev pub request_answer : Settings → Own → Request → Said
request_answer s o (Ok c) = table_answer s o c
request_answer s o (Err u) = nothing

-- POWR 1 when off starts warm-up with W left; POWR 0 when on starts cooling with C left; otherwise power stays.
unfoldable pub after_power : Settings → Own → Bool → Own
after_power s o wanted =
    if wanted && o.power == off then with_power_left o warming s.warm
    else if not wanted && o.power == on then with_power_left o cooling s.cool
    else o

-- the half that is not named stays as it is
abbrev pub after_mute : Own → Half → Bool → Own
after_mute o VideoHalf wanted = with_mutes o (flag_of wanted) o.audio_muted
after_mute o AudioHalf wanted = with_mutes o o.video_muted (flag_of wanted)
after_mute o BothHalves wanted = with_mutes o (flag_of wanted) (flag_of wanted)

-- a step that can't go further leaves the level
unfoldable pub level_after : Bool → ℕ → ℕ
level_after up level = if up then (if nat_lt level volume_most then level + 1 else level) else level - 1

abbrev pub after_step : Own → Volume → Bool → Own
after_step o Speaker up = with_volumes o (level_after up o.speaker) o.microphone
after_step o Microphone up = with_volumes o o.speaker (level_after up o.microphone)

abbrev pub after_command : Settings → Own → Command → Own
after_command s o (PowerSet wanted) = after_power s o wanted
after_command s o (InputSet k i) = with_chosen o (listed_index s i)
after_command s o (MuteSet half wanted) = after_mute o half wanted
after_command s o (Query b) = o
after_command s o (FreezeSet wanted) = with_freeze o (flag_of wanted)
after_command s o (VolumeStep v up) = after_step o v up
after_command s o (NameQuery i) = o

abbrev pub carried_out : Settings → Own → Request → Own
carried_out s o (Ok c) = after_command s o c
carried_out s o (Err u) = o

-- the first of the four rules that applies
unfoldable pub answer_for : Settings → Own → Request → Said
answer_for s o r =
    if is_undefined s r then refused 1
    else if is_out_of_parameter s r then refused 2
    else if is_failure o r then refused 4
    else if is_unavailable o r then refused 3
    else request_answer s o r

abbrev pub is_refused : Settings → Own → Request → Bool
is_refused s o r = is_undefined s r || is_out_of_parameter s r || is_failure o r || is_unavailable o r

unfoldable pub after_request : Settings → Own → Request → Own
after_request s o r = if is_refused s o r then o else carried_out s o r
