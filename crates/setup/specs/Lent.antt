-- The settings that set-up is given, as the rules have them (RULES, The legal record and Class 2).
--   class_number c       the number of the class c
--   serial_of c          the serial number of the class c, empty in Class 1;    version_of c    its software version
--   names_lent ns        the names in ns, each by itself;    names_of c    those of the class c, none in Class 1
--   wanted_settings w    the settings w as the rules have them
--   with_class_2 serial version names w    the settings w for a projector of Class 2, with what it alone has
-- Assumes nothing.
use Rattle.std.specs.Prelude.{ℕ, List, []}
use Rattle.record.specs.Wanted.{Wanted, wanted_in, names_in, counted_in}
use Rattle.setup.specs.declared.wanted.Names.{Names}
use Rattle.setup.specs.declared.wanted.Names.TheVariants.{Packed, Counted}
use Rattle.setup.specs.declared.wanted.Class.{Class}
use Rattle.setup.specs.declared.wanted.Class.TheVariants.{One, Two}
use Rattle.setup.specs.declared.wanted.Wanted.{Wanted as Lent}

abbrev pub class_number : Class → ℕ
class_number One = 1
class_number (Two serial version names) = 2

abbrev pub serial_of : Class → List ℕ
serial_of One = []
serial_of (Two serial version names) = serial.now

abbrev pub version_of : Class → List ℕ
version_of One = []
version_of (Two serial version names) = version.now

abbrev pub names_lent : Names → List (List ℕ)
names_lent (Packed bytes lengths) = names_in lengths.now bytes.now
names_lent (Counted names) = counted_in names.count names.bytes.now

abbrev pub names_of : Class → List (List ℕ)
names_of One = []
names_of (Two serial version names) = names_lent names

abbrev pub wanted_settings : Lent → Wanted
wanted_settings w =
    wanted_in (class_number w.class) w.name.now w.maker.now w.model.now w.other.now w.password.now w.inputs.now
    w.lamps.now w.warm w.cool (serial_of w.class) (version_of w.class) (names_of w.class)

abbrev pub with_class_2 : (serial version : List ℕ) (names : List (List ℕ)) → Wanted → Wanted
with_class_2 serial version names w = record w { class = 2; serial = serial; version = version; names = names }
