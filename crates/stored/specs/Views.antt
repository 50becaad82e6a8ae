-- What the code reads of a form, as the rules have it (RULES, Stored form).
--   marks_said n m     the bytes of n lamps' marks: each 1 where the form has none
--   in_class_2 k s     s in Class 2, which alone has it
--   said_of f          what a form says
-- Assumes nothing.
use Rattle.std.specs.Prelude.{ℕ, ◌/◌, List, [], length, replicate, if◌then◌else◌, Option, Some, None, ◌==◌}
use Rattle.std.specs.Borrow.{Bor}
use Rattle.record.specs.Wanted.{wanted_in}
use Rattle.setup.specs.Lent.{names_lent}
use Rattle.stored.specs.declared.form.Form.{Form}
use Rattle.stored.specs.Sections.{seconds_in}
use Rattle.stored.specs.Form.{FormSaid}

abbrev pub marks_said : ℕ → Option (Bor (List ℕ)) → List ℕ
marks_said n None = replicate n 1
marks_said n (Some m) = m.now

abbrev pub in_class_2 : {A : Type 0} → ℕ → List A → List A
in_class_2 k s = if k == 2 then s else []

abbrev pub said_of : Form → FormSaid
said_of f =
    let xs = seconds_in (length f.lamps.now / 4) f.lamps.now in
    record {
      settings = wanted_in f.class f.name.now f.maker.now f.model.now f.other.now f.password.now f.inputs.now xs
          f.warm f.cool (in_class_2 f.class f.serial.now) (in_class_2 f.class f.version.now)
          (in_class_2 f.class (names_lent f.names));
      marks = marks_said (length xs) f.marks;
    }
