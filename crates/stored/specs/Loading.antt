-- Loading a stored form (RULES, Stored form): "20, 21, 22, 23, tested in that order"; "a refused load gives the blank
-- record"; an accepted one is a fresh set-up, with the marks "as the form has them", and "version 1 loads with all set"
-- (RULES, Lamps). Where a form ends, its version, its counts and its class alone say; the contents are looked at last.
--   is_other_version s        there is a first byte, and it is no version's
--   is_cut_short s            the bytes end before the form does;    is_left_over s    the form ends before the bytes
--                             do
--   said_in s                 what the form says;    settings_in s, mark_bytes_in s    its settings, its bytes of marks
--   marks_read s              the marks in s, each a flag
--   mark_room ms              the marks ms in their room: none past them
--   is_marks_of n ms          ms are marks of n lamps: one a lamp, and legal in their room
--   are_marks n bytes         the bytes are such marks
--   started_with w ms         the device that a set-up of w gives, the lamps with the marks ms
--   is_legal_said f           what is said can be set up, and the marks are those of its lamps
--   contents f                what loading gives by what is said, where that is all that stands there
--   load_rows s               when a load is refused
--   loaded_from s             refused with the blank record, or the set-up of the settings in s with the marks in s
-- Assumes nothing.
use Rattle.std.specs.Prelude.{ℕ, Bool, true, false, not, ◌&&◌, List, [], ◌∷◌, map, length, Option, Some, None}
use Rattle.std.specs.Prelude.{if◌then◌else◌, ◌==◌}
use Rattle.std.specs.List.{list_all}
use Rattle.text.specs.Flags.{is_flag, is_raised, flag_of}
use Rattle.text.specs.Rooms.{filled_room}
use Rattle.text.specs.Rows.{RefusalRow, ◌when◌, by_rows}
use Rattle.text.specs.Outcomes.{CallResult, served_as, refused_as}
use Rattle.record.specs.Limits.{lamps_most}
use Rattle.record.specs.Wanted.{Wanted}
use Rattle.record.specs.Rules.{is_marks}
use Rattle.record.specs.Updates.{with_own, with_marks}
use Rattle.record.specs.Record.{start_device, blank}
use Rattle.record.specs.SetUp.{is_set_up}
use Rattle.record.specs.declared.types.Device.{Device}
use Rattle.stored.specs.Form.{form_version, marked_version, old_version, FormSaid, nothing_said, form}
use Rattle.stored.specs.declared.error.LoadError.{LoadError}
use Rattle.stored.specs.declared.error.LoadError.TheVariants.{OtherVersion, CutShort, LeftOver, NotLegal}

abbrev pub is_other_version : List ℕ → Bool
is_other_version [] = false
is_other_version (v ∷ s) = not (v == form_version) && not (v == marked_version) && not (v == old_version)

abbrev pub ends_early : Option (FormSaid × List ℕ) → Bool
ends_early None = true
ends_early (Some f) = false

abbrev pub leaves_more : Option (FormSaid × List ℕ) → Bool
leaves_more None = false
leaves_more (Some f) = not (length f.1 == 0)

abbrev pub is_cut_short : List ℕ → Bool
is_cut_short s = ends_early (form s)

abbrev pub is_left_over : List ℕ → Bool
is_left_over s = leaves_more (form s)

-- nothing is said by what is cut short
abbrev pub said_by_form : Option (FormSaid × List ℕ) → FormSaid
said_by_form None = nothing_said
said_by_form (Some f) = f.0

abbrev pub said_in : List ℕ → FormSaid
said_in s = said_by_form (form s)

abbrev pub settings_in : List ℕ → Wanted
settings_in s = (said_in s).settings

abbrev pub mark_bytes_in : List ℕ → List ℕ
mark_bytes_in s = (said_in s).marks

abbrev pub marks_read : List ℕ → List Bool
marks_read s = map is_raised (mark_bytes_in s)

unfoldable pub mark_room : List Bool → List ℕ
mark_room ms = filled_room 0 lamps_most (map flag_of ms)

abbrev pub is_marks_of : ℕ → List Bool → Bool
is_marks_of n ms = length ms == n && is_marks n (mark_room ms)

abbrev pub are_marks : ℕ → List ℕ → Bool
are_marks n bytes = list_all is_flag bytes && is_marks_of n (map is_raised bytes)

abbrev pub started_with : Wanted → List Bool → Device
started_with w ms = with_own (start_device w) (with_marks (start_device w).own (mark_room ms))

abbrev pub is_legal_said : FormSaid → Bool
is_legal_said f = is_set_up f.settings && are_marks (length f.settings.lamps) f.marks

abbrev pub contents : FormSaid → CallResult LoadError (Unit {0}) Device
contents f =
    if is_legal_said f then served_as tt [] (started_with f.settings (map is_raised f.marks))
    else refused_as blank NotLegal

abbrev pub load_rows : List ℕ → List (RefusalRow LoadError)
load_rows s =
    (OtherVersion when is_other_version s) ∷ (CutShort when is_cut_short s) ∷ (LeftOver when is_left_over s)
    ∷ (NotLegal when not (is_legal_said (said_in s))) ∷ []

unfoldable pub loaded_from : List ℕ → CallResult LoadError (Unit {0}) Device
loaded_from s =
    by_rows (load_rows s) (refused_as blank) (served_as tt [] (started_with (settings_in s) (marks_read s)))
