-- How long a form is: a byte for the version, one for each count, four for W and C, and the contents. None is longer
-- than `form_most`; proofs/Samples has one that is as long.
-- Assumes nothing.
use Rattle.std.specs.List.{list_all}
use Rattle.std.proofs.Common.{ℕ, ◌+◌, ◌*◌, ◌≤◌, ◌≡◌, Bool, true, ◌==◌, List, [], ◌∷◌, length, map, arith, length-append}
use Rattle.std.proofs.Common.{eqb-true}
use Rattle.std.proofs.lemmas.List.{length-map}
use Rattle.text.proofs.Choices.{both_left}
use Rattle.words.specs.Texts.{is_input_name}
use Rattle.numbers.proofs.HighestFirst.{length-highest_first}
use Rattle.words.proofs.TextsTold.{name_long, info_long, password_long, input_name_long}
use Rattle.record.specs.Wanted.{Wanted}
use Rattle.record.specs.Legal.{is_legal}
use Rattle.record.specs.SetUp.{is_set_up}
use Rattle.record.specs.declared.types.Device.{Device}
use Rattle.record.specs.declared.types.Setting.TheVariants.{Serial, Version, Names, Name, Maker, Model, Other, Password}
use Rattle.record.specs.declared.types.Setting.TheVariants.{Inputs, Lamps}
use Rattle.record.proofs.Rules.{inputs_few, lamps_few, names_many, names_each, text_most}
use Rattle.record.proofs.FactsTold.{legal_is}
use Rattle.record.proofs.OutOfRange.{each_in_range}
use Rattle.text.specs.Flags.{flag_of}
use Rattle.stored.specs.Sections.{texts_bytes}
use Rattle.stored.specs.Form.{form_version, FormSaid, parts_written, parts_with_class, marks_part, class_part}
use Rattle.stored.specs.Form.{form_bytes, settings_marked, form_of, form_most, stored_of, marks_stored, stored_form}
use Rattle.stored.proofs.Fields.{seconds_long}
use Rattle.stored.specs.Loading.{is_marks_of}
use Rattle.stored.proofs.FormsLoad.{stored_in_range, stored_marks}

pub form_long : (v : ℕ) (f : FormSaid)
    → length (form_bytes v f)
    ≡ 12 + (length f.settings.name + length f.settings.maker + length f.settings.model + length f.settings.other
    + length f.settings.password)
    + length f.settings.inputs + 4 * length f.settings.lamps + length ((marks_part v).written f)
    + length ((class_part v).written f)
unfolding form_bytes
form_long v f = grind (arith, length-append, length-highest_first, seconds_long)

-- names of 128 bytes at most, each with its count
names_most : (ts : List (List ℕ)) → list_all is_input_name ts ≡ true → length (texts_bytes ts) ≤ 129 * length ts
unfolding texts_bytes
names_most [] e = omega arith
names_most (t ∷ ts) e = grind (arith, e, length-append t (texts_bytes ts), input_name_long t, names_most ts)

-- the class, and what Class 2 alone has
class_most : (w : Wanted) (m : List ℕ) → is_set_up w ≡ true
    → length (parts_written parts_with_class (record { settings = w; marks = m })) ≤ 4195
class_most w m ok =
    let met = each_in_range w ok in
    grind (
      arith,
      length-append,
      names_most w.names (names_each _ w.names (met Names)),
      names_many _ w.names (met Names),
      text_most w.serial _ (met Serial),
      text_most w.version _ (met Version),
      inputs_few _ w.inputs (met Inputs),
    )

pub form_within_most : (w : Wanted) (ms : List Bool) → is_set_up w ≡ true → is_marks_of (length w.lamps) ms ≡ true
    → length (form_of w ms) ≤ form_most
form_within_most w ms ok marks =
    let met = each_in_range w ok in
    omega (
      arith,
      form_long form_version (settings_marked w ms),
      class_most w (map flag_of ms) ok,
      length-append (map flag_of ms) [],
      length-map ms flag_of,
      eqb-true (length ms) (length w.lamps) (both_left (length ms == length w.lamps) _ marks),
      name_long w.name (met Name),
      info_long w.maker (met Maker),
      info_long w.model (met Model),
      info_long w.other (met Other),
      password_long w.password (met Password),
      inputs_few _ w.inputs (met Inputs),
      lamps_few w.lamps (met Lamps),
    )

-- so memory of that size is never too short for a legal record
pub stored_most : (d : Device) → is_legal d ≡ true → length (stored_form d) ≤ form_most
stored_most d h = form_within_most (stored_of d) (marks_stored d) (stored_in_range d h) (stored_marks d h)

pub ruleset stored_fits = (stored_most, legal_is)
