-- The stored form (RULES, Stored form): "the version byte .., then sections in a fixed order, each after its count (of
-- bytes, inputs or lamps) in one byte: name, maker, model, other, password, inputs (two ASCII digits each), lamps
-- (seconds as four bytes); last W and C as two bytes each; all highest first". Version 2 has "a section of marks, one
-- byte 0 or 1 each, after the lamps .. Each version has one form; the newest is written" (RULES, Lamps). Version 3 has
-- the class after C in one byte, and in Class 2 a serial number, a version and a name for each input, each after its
-- count (RULES, Class 2). `form_parts` lists what a form has: by this list it is written, and by this list it is read.
--   form_version               the version byte of the newest form. Still loaded: marked_version, which has marks and
--                              no class; old_version, which has neither
--   FormSaid                   what a form says: the settings, the lamps' seconds among them, and the bytes of marks
--   Part                       a part of a form: what is written of it where so much is said, and how it is read after
--                              what was said before it
--   part f get set             the value that `get` has of what is said, and that `set` adds to it, in the format f;
--                              setting f get set    a value of the settings
--   parts_written, parts_read  parts, one after the other
--   where_said c ps            the parts ps, where c holds of what is said before them; else nothing
--   each_enabled y xs          lamps of the seconds xs, each enabled: a form has their marks, if any, after them
--   marks_part v               the marks (marks_alone), which the oldest version has not
--   class_part v               the class, which the newest has, with what Class 2 has (parts_in_class_2)
--   form_parts v               the parts of a form of the version v, after its first byte
--   nothing_said               what is said before the first of them: Class 1, unless another is said
--   form_bytes v f             the form of the version v that says f
--   form                       how a form is read, of whatever version
--   settings_marked w ms       the settings w are said, and the marks ms, a flag each
--   version_form v w ms        the form of the version v that says them
--   form_of w ms               the newest;    marked_form_of w ms    version 2's, of settings of Class 1
--   old_form_of w              version 1's
--   form_most                  no form is longer
--   text_stored t              what is stored of a text: the bytes that it has;    name_stored t    of an input's name
--   stored_of d                what is stored of a record: its settings, and each lamp's seconds as they are now
--   marks_stored d             and each lamp's mark
--   said_stored d              a form says both;    stored_form d    the form of both
--   storing_rows d room        when it is refused: memory is short by this form's own length
--   stored_by d room           refused, or the form
-- Assumes nothing.
use Rattle.std.specs.Prelude.{ℕ, ◌*◌, ◌/◌, Bool, not, List, [], ◌∷◌, map, length, take, replicate}
use Rattle.std.specs.Prelude.{if◌then◌else◌, nat_lt, ◌==◌}
use Rattle.text.specs.Flags.{flag_of}
use Rattle.text.specs.InTurn.{each_in_turn}
use Rattle.text.specs.Rows.{RefusalRow, ◌when◌, by_rows}
use Rattle.text.specs.Outcomes.{CallResult, served_as, refused_as}
use Rattle.record.specs.Limits.{only_in_2}
use Rattle.record.specs.Wanted.{Wanted, wanted_of}
use Rattle.record.specs.Legal.{is_legal}
use Rattle.record.specs.Views.{marks_seen}
use Rattle.record.specs.declared.types.Text.{Text}
use Rattle.record.specs.declared.types.InputName.{InputName}
use Rattle.record.specs.declared.types.Device.{Device}
use Rattle.record.specs.declared.refusal.Refusal.{Refusal}
use Rattle.record.specs.declared.refusal.Refusal.TheVariants.{NotLegal, NoRoom}
use Rattle.stored.specs.Sections.{Field, ◌giving◌, given, byte, Format, in_byte, in_two_bytes, a_text, a_list}
use Rattle.stored.specs.Sections.{lamps_seconds, many_texts}

abbrev pub form_version : ℕ
form_version = 3

abbrev pub marked_version : ℕ
marked_version = 2

abbrev pub old_version : ℕ
old_version = 1

pub record FormSaid : Type 0 where
  pub settings : Wanted
  pub marks : List ℕ

pub record Part : Type 0 where
  pub written : FormSaid → List ℕ
  pub read : FormSaid → Field FormSaid

abbrev pub part : {A : Type 0} → (FormSaid → Format A) → (FormSaid → A) → (FormSaid → A → FormSaid) → Part
part f get set = record {
  written = λ x. (f x).written (get x);
  read = λ y.
      (f y).read giving λ a.
      given (set y a);
}

abbrev pub setting : {A : Type 0} → Format A → (Wanted → A) → (Wanted → A → Wanted) → Part
setting f get set = part (λ y. f) (λ x. get x.settings) (λ y a. record y { settings = set y.settings a })

abbrev pub parts_written : List Part → FormSaid → List ℕ
parts_written ps x = each_in_turn (λ p. p.written x) ps

abbrev pub parts_read : List Part → FormSaid → Field FormSaid
parts_read [] y = given y
parts_read (p ∷ ps) y = p.read y giving λ z. parts_read ps z

abbrev pub where_said : (FormSaid → Bool) → List Part → Part
where_said c ps = record {
  written = λ x. if c x then parts_written ps x else [];
  read = λ y. if c y then parts_read ps y else given y;
}

abbrev pub each_enabled : FormSaid → List ℕ → FormSaid
each_enabled y xs = record { settings = record y.settings { lamps = xs }; marks = replicate (length xs) 1 }

abbrev pub marks_alone : List Part
marks_alone = part (λ y. a_text) (λ x. x.marks) (λ y m. record y { marks = m }) ∷ []

abbrev pub marks_part : ℕ → Part
marks_part v = where_said (λ x. not (v == old_version)) marks_alone

abbrev pub parts_in_class_2 : List Part
parts_in_class_2 =
    setting a_text (λ w. w.serial) (λ w s. record w { serial = s })
    ∷ setting a_text (λ w. w.version) (λ w s. record w { version = s })
    ∷ part (λ y. many_texts (length y.settings.inputs / 2)) (λ x. x.settings.names)
    (λ y ts. record y { settings = record y.settings { names = ts } })
    ∷ []

abbrev pub parts_with_class : List Part
parts_with_class =
    setting in_byte (λ w. w.class) (λ w k. record w { class = k })
    ∷ where_said (λ x. x.settings.class == 2) parts_in_class_2
    ∷ []

abbrev pub class_part : ℕ → Part
class_part v = where_said (λ x. v == form_version) parts_with_class

abbrev pub parts_after_marks : ℕ → List Part
parts_after_marks v =
    setting in_two_bytes (λ w. w.warm) (λ w n. record w { warm = n })
    ∷ setting in_two_bytes (λ w. w.cool) (λ w n. record w { cool = n })
    ∷ class_part v
    ∷ []

abbrev pub form_parts : ℕ → List Part
form_parts v =
    setting a_text (λ w. w.name) (λ w s. record w { name = s })
    ∷ setting a_text (λ w. w.maker) (λ w s. record w { maker = s })
    ∷ setting a_text (λ w. w.model) (λ w s. record w { model = s })
    ∷ setting a_text (λ w. w.other) (λ w s. record w { other = s })
    ∷ setting a_text (λ w. w.password) (λ w s. record w { password = s })
    ∷ setting a_list (λ w. w.inputs) (λ w s. record w { inputs = s })
    ∷ part (λ y. lamps_seconds) (λ x. x.settings.lamps) each_enabled
    ∷ marks_part v
    ∷ parts_after_marks v

abbrev pub nothing_said : FormSaid
nothing_said = record { settings = wanted_of [] [] [] [] [] [] [] 0 0; marks = [] }

unfoldable pub form_bytes : ℕ → FormSaid → List ℕ
form_bytes v f = v ∷ parts_written (form_parts v) f

unfoldable pub form : Field FormSaid
form =
    byte giving λ v.
    parts_read (form_parts v) nothing_said

abbrev pub settings_marked : Wanted → List Bool → FormSaid
settings_marked w ms = record { settings = w; marks = map flag_of ms }

abbrev pub version_form : ℕ → Wanted → List Bool → List ℕ
version_form v w ms = form_bytes v (settings_marked w ms)

abbrev pub form_of : Wanted → List Bool → List ℕ
form_of w ms = version_form form_version w ms

abbrev pub marked_form_of : Wanted → List Bool → List ℕ
marked_form_of w ms = version_form marked_version w ms

abbrev pub old_form_of : Wanted → List ℕ
old_form_of w = version_form old_version w []

-- a version; a name of 64 bytes; three texts and a password of 32; 32 inputs; 8 lamps and their marks; W and C; the
-- class; two texts of 32 bytes, and 32 names of 128
abbrev pub form_most : ℕ
form_most = 4504

abbrev pub text_stored : Text → List ℕ
text_stored t = take t.len t.bytes

abbrev pub name_stored : InputName → List ℕ
name_stored t = take t.len t.bytes

abbrev pub stored_of : Device → Wanted
stored_of d = record {
  name = text_stored d.settings.name;
  maker = text_stored d.settings.maker;
  model = text_stored d.settings.model;
  other = text_stored d.settings.other;
  password = text_stored d.settings.password;
  inputs = take (2 * d.settings.input_count) d.settings.inputs;
  lamps = take d.settings.lamp_count d.own.lamps;
  warm = d.settings.warm;
  cool = d.settings.cool;
  class = d.settings.class_number;
  serial = text_stored d.settings.serial;
  version = text_stored d.settings.version;
  names = map name_stored
      (take (only_in_2 d.settings.class_number d.settings.input_count) d.settings.names);
}

abbrev pub marks_stored : Device → List Bool
marks_stored d = take d.settings.lamp_count (marks_seen d.own)

abbrev pub said_stored : Device → FormSaid
said_stored d = settings_marked (stored_of d) (marks_stored d)

abbrev pub stored_form : Device → List ℕ
stored_form d = form_of (stored_of d) (marks_stored d)

abbrev pub storing_rows : Device → ℕ → List (RefusalRow Refusal)
storing_rows d room = (NotLegal when not (is_legal d)) ∷ (NoRoom when nat_lt room (length (stored_form d))) ∷ []

unfoldable pub stored_by : Device → ℕ → CallResult Refusal (Unit {0}) (Unit {0})
stored_by d room = by_rows (storing_rows d room) (refused_as tt) (served_as tt (stored_form d) tt)
