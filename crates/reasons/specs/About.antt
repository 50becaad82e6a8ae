-- The version and the kit of archive and programs (RULES, The C face).
--   face_number      the version of the C face
--   version_said     that version, its date, and the kit that proved and built the archive or program
--   version_line     the end of the line that a program writes after its name: that, and LF
--   about_text       what the archive says of itself: its name and that
-- Assumes nothing.
use Rattle.std.specs.Prelude.{ℕ, List, ◌++◌, codes}

abbrev pub face_number : ℕ
face_number = 13

abbrev pub version_said : List ℕ
version_said = codes "13 of 2026-11-27 and later (rattle-kit-13f logic dac8208d650f15bf)"

abbrev pub version_line : List ℕ
version_line = version_said ++ codes "\n"

abbrev pub about_text : List ℕ
about_text = codes "ceiling " ++ version_said
