-- Set-up (RULES, The legal record; number 3 of "The numbers a call gives"; number 8 of RULES, Passwords): which device
-- it gives, or why none, for every input.
--   settings_in_order         the settings, in the order in which set-up is lent them
--   is_setting_in_range w s   the setting s is in its range: a password of 1 to 7 characters is in its
--   is_in_range w             each setting is: every 3 is ruled out
--   is_set_up w               and the password is long enough
--   first_failing f l         the first of l whose rule f is not met, or none
--   first_out_of_range w      the first setting out of its range, or none
--   unless_out m r            refused for the setting m; r where m is none
--   set_up w                  the started device; refused for the first setting out of its range, else for a short
--                             password, and the record is then the blank one
-- An odd number of characters is no list of inputs, and so out of range.
-- Assumes nothing.
use Rattle.std.specs.Prelude.{Bool, not, ◌&&◌, List, [], ◌∷◌, ◌/◌, length}
use Rattle.std.specs.Prelude.{Option, Some, None}
use Rattle.std.specs.List.{find, list_all}
use Rattle.text.specs.Rows.{◌when◌, by_rows}
use Rattle.text.specs.Outcomes.{CallResult, served_as, refused_as}
use Rattle.words.specs.Texts.{is_text, is_name, is_info, is_password, info_most}
use Rattle.record.specs.Limits.{only_in_2}
use Rattle.record.specs.Wanted.{Wanted}
use Rattle.record.specs.Rules.{is_long_enough, is_inputs, is_lamps, is_transition, are_names}
use Rattle.record.specs.Record.{start_device, blank}
use Rattle.record.specs.declared.types.Device.{Device}
use Rattle.record.specs.declared.set_up_error.SetUpError.{SetUpError}
use Rattle.record.specs.declared.set_up_error.SetUpError.TheVariants.{OutOfRange, ShortPassword}
use Rattle.record.specs.declared.types.Setting.{Setting}
use Rattle.record.specs.declared.types.Setting.TheVariants.{Name, Maker, Model, Other, Password, Inputs, Lamps, WarmUp}
use Rattle.record.specs.declared.types.Setting.TheVariants.{Cooling, Serial, Version, Names}

abbrev pub settings_in_order : List Setting
settings_in_order =
    Name ∷ Maker ∷ Model ∷ Other ∷ Password ∷ Inputs ∷ Lamps ∷ WarmUp ∷ Cooling ∷ Serial ∷ Version ∷ Names ∷ []

abbrev pub is_setting_in_range : Wanted → Setting → Bool
is_setting_in_range w Name = is_name w.name
is_setting_in_range w Maker = is_info w.maker
is_setting_in_range w Model = is_info w.model
is_setting_in_range w Other = is_info w.other
is_setting_in_range w Password = is_password w.password
is_setting_in_range w Inputs = is_inputs w.class w.inputs
is_setting_in_range w Lamps = is_lamps w.lamps
is_setting_in_range w WarmUp = is_transition w.warm
is_setting_in_range w Cooling = is_transition w.cool
is_setting_in_range w Serial = is_text (only_in_2 w.class info_most) w.serial
is_setting_in_range w Version = is_text (only_in_2 w.class info_most) w.version
is_setting_in_range w Names = are_names (only_in_2 w.class (length w.inputs / 2)) w.names

unfoldable pub is_in_range : Wanted → Bool
is_in_range w = list_all (is_setting_in_range w) settings_in_order

unfoldable pub is_set_up : Wanted → Bool
is_set_up w = is_in_range w && is_long_enough (length w.password)

abbrev pub first_failing : (Setting → Bool) → List Setting → Option Setting
first_failing f l = find (λ s. not (f s)) l

abbrev pub first_out_of_range : Wanted → Option Setting
first_out_of_range w = first_failing (is_setting_in_range w) settings_in_order

abbrev pub unless_out : Option Setting → CallResult SetUpError (Unit {0}) Device
    → CallResult SetUpError (Unit {0}) Device
unless_out (Some s) r = refused_as blank (OutOfRange s)
unless_out None r = r

unfoldable pub set_up : Wanted → CallResult SetUpError (Unit {0}) Device
set_up w =
    unless_out (first_out_of_range w)
    (by_rows ((ShortPassword when not (is_long_enough (length w.password))) ∷ []) (refused_as blank)
    (served_as tt [] (start_device w)))
