-- Stored forms of each version, printed by hand from RULES, Stored form: two lamps, three inputs, a name in Japanese;
-- and bytes that do not load, each with its number.
--   hex s                     bytes by their hexadecimal digits, two each
--   cutting_room              a set-up of Class 1, whose warm-up lasts 20 seconds and cooling 600
--   class_room                the same in Class 2, with a serial number, a version and three names
--   only_first                the marks: the second lamp is not enabled
--   printed_form              the form of cutting_room;    printed_class_2    that of class_room
--   printed_marked            version 2, which has no class;    printed_old    version 1, which has no marks either
--   s is_loaded_as n          the bytes s load with the number n
--   AreLoadedAs rows          each row of such holds
-- Assumes nothing.
use Prim.Native.String.{String}
use Prim.Native.Char.{code}
use Rattle.std.specs.Prelude.{ℕ, ◌+◌, ◌-◌, ◌*◌, ◌≡◌, Bool, true, false, List, [], ◌∷◌, ◌++◌, take, drop, replicate}
use Rattle.std.specs.Prelude.{codes, if◌then◌else◌}
use Rattle.text.specs.Words.{◌from◌to◌}
use Rattle.record.specs.Limits.{lamp_limit}
use Rattle.record.specs.Wanted.{Wanted, wanted_of, wanted_of_2, with_password}
use Rattle.record.specs.Record.{zeros}
use Rattle.stored.specs.Form.{form_version, form_bytes, form_of}
use Rattle.text.specs.Outcomes.{call_number}
use Rattle.stored.specs.Told.{load_error_number}
use Rattle.stored.specs.Loading.{loaded_from}

infix 30 ◌is_loaded_as◌
abbrev pub hex_figure : ℕ → ℕ
hex_figure b = if b from "0" to "9" then b - code "0" else b - code "A" + 10

abbrev pub hex_pairs : List ℕ → List ℕ
hex_pairs [] = []
hex_pairs (a ∷ []) = []
hex_pairs (a ∷ b ∷ s) = (hex_figure a * 16 + hex_figure b) ∷ hex_pairs s

abbrev pub hex : String → List ℕ
hex s = hex_pairs (codes s)

-- the name is 裁断, the room where cloth is cut
abbrev pub cutting_room : Wanted
cutting_room =
    wanted_of (hex "E8A381E696AD") (codes "Kunimi") [] (codes "Room 2") (codes "shears12") (codes "113159")
    (3600 ∷ 359999999 ∷ []) 20 600

abbrev pub only_first : List Bool
only_first = true ∷ false ∷ []

-- the texts and the password, each after its length; three inputs; two lamps, an hour and the limit
abbrev pub until_marks : List ℕ
until_marks =
    hex "06" ++ hex "E8A381E696AD"
    ++ hex "06" ++ codes "Kunimi"
    ++ hex "00"
    ++ hex "06" ++ codes "Room 2"
    ++ hex "08" ++ codes "shears12"
    ++ hex "03" ++ codes "113159"
    ++ hex "02" ++ hex "00000E10" ++ hex "157529FF"

-- two marks; W, then C
abbrev pub until_class : List ℕ
until_class = until_marks ++ hex "02" ++ hex "0100" ++ hex "0014" ++ hex "0258"

abbrev pub printed_form : List ℕ
printed_form = hex "03" ++ until_class ++ hex "01"

-- in Class 2: the serial number, the version and three names, the last of them empty
abbrev pub class_room : Wanted
class_room =
    wanted_of_2 cutting_room.name cutting_room.maker [] cutting_room.other cutting_room.password
    cutting_room.inputs cutting_room.lamps 20 600 (codes "S-7") (codes "1.0")
    (codes "Desk" ∷ codes "Cast" ∷ [] ∷ [])

abbrev pub printed_class_2 : List ℕ
printed_class_2 =
    hex "03" ++ until_class ++ hex "02" ++ hex "03" ++ codes "S-7" ++ hex "03" ++ codes "1.0" ++ hex "04"
    ++ codes "Desk"
    ++ hex "04" ++ codes "Cast" ++ hex "00"

abbrev pub printed_marked : List ℕ
printed_marked = hex "02" ++ until_class

-- as boards wrote it before
abbrev pub printed_old : List ℕ
printed_old = hex "01" ++ until_marks ++ hex "0014" ++ hex "0258"

pub record LoadedRow : Type 0 where
  pub bytes : List ℕ
  pub number : ℕ

abbrev pub ◌is_loaded_as◌ : List ℕ → ℕ → LoadedRow
s is_loaded_as n = record { bytes = s; number = n }

-- a password that is not allowed; one lamp too many, all its bytes there
abbrev pub spaced_form : List ℕ
spaced_form = form_of (with_password (codes "she ars") cutting_room) only_first

abbrev pub nine_lamps_form : List ℕ
nine_lamps_form = form_of (wanted_of [] [] [] [] [] (codes "11") (zeros 9) 20 60) (replicate 9 true)

-- no byte; another version, cut short or not; cut short after the version, in the name, before the last byte, under
-- contents that are not legal; left over, after such contents too; contents
abbrev pub refused_rows : List LoadedRow
refused_rows =
    ([] is_loaded_as 21)
    ∷ (hex "00" is_loaded_as 20)
    ∷ (hex "04" is_loaded_as 20)
    ∷ ((hex "04" ++ printed_form) is_loaded_as 20)
    ∷ (hex "03" is_loaded_as 21)
    ∷ (hex "0306E8" is_loaded_as 21)
    ∷ (take 55 printed_form is_loaded_as 21)
    ∷ (take 54 spaced_form is_loaded_as 21)
    ∷ (take 60 nine_lamps_form is_loaded_as 21)
    ∷ ((printed_form ++ hex "00") is_loaded_as 22)
    ∷ ((spaced_form ++ hex "0A") is_loaded_as 22)
    ∷ (spaced_form is_loaded_as 23)
    ∷ (nine_lamps_form is_loaded_as 23)
    ∷ []

-- the class: none, another one, with and without texts after it; in Class 2 cut in a text and before the last, left
-- over; version 2 with a class
abbrev pub class_rows : List LoadedRow
class_rows =
    ((hex "03" ++ until_class) is_loaded_as 21)
    ∷ ((hex "03" ++ until_class ++ hex "00") is_loaded_as 23)
    ∷ ((hex "03" ++ until_class ++ hex "0700") is_loaded_as 22)
    ∷ ((hex "03" ++ until_class ++ hex "02") is_loaded_as 21)
    ∷ (take 70 printed_class_2 is_loaded_as 21)
    ∷ (take 73 printed_class_2 is_loaded_as 21)
    ∷ ((printed_class_2 ++ hex "00") is_loaded_as 22)
    ∷ ((printed_marked ++ hex "01") is_loaded_as 22)
    ∷ []

-- version 1: cut short, left over; the marks that version 2 has are left over in it, and W and C are no marks
abbrev pub old_rows : List LoadedRow
old_rows =
    (hex "01" is_loaded_as 21)
    ∷ (take 51 printed_old is_loaded_as 21)
    ∷ ((printed_old ++ hex "00") is_loaded_as 22)
    ∷ ((hex "01" ++ drop 1 printed_marked) is_loaded_as 22)
    ∷ ((hex "02" ++ drop 1 printed_old) is_loaded_as 21)
    ∷ []

-- marks: one too few, one too many, a byte that is none, none set; no lamp, and so no mark
abbrev pub marks_rows : List LoadedRow
marks_rows =
    (form_of cutting_room (true ∷ []) is_loaded_as 23)
    ∷ (form_of cutting_room (true ∷ true ∷ true ∷ []) is_loaded_as 23)
    ∷ (form_bytes form_version (record { settings = cutting_room; marks = hex "0102" }) is_loaded_as 23)
    ∷ (form_of cutting_room (false ∷ false ∷ []) is_loaded_as 23)
    ∷ (form_of (wanted_of [] [] [] [] [] (codes "11") [] 20 60) [] is_loaded_as 0)
    ∷ []

abbrev pub AreLoadedAs : List LoadedRow → Type 0
AreLoadedAs [] = Unit {0}
AreLoadedAs (row ∷ rows) = (call_number load_error_number (loaded_from row.bytes) ≡ row.number) × AreLoadedAs rows

-- the longest form there is: every text, the inputs and the lamps as many as are allowed
abbrev pub widest_form : List ℕ
widest_form = form_of
    (wanted_of_2 (replicate 64 (code "N")) (replicate 32 (code "M")) (replicate 32 (code "O")) (replicate 32 (code "I"))
    (replicate 32 (code "p")) (codes "1112131415161718192122232425262728293132333435363738394142434445")
    (replicate 8 lamp_limit) 600 600 (replicate 32 (code "S")) (replicate 32 (code "V"))
    (replicate 32 (replicate 128 (code "n"))))
    (replicate 8 true)
