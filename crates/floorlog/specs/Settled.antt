-- Logs and what the replay prints for them, on the sample set-up (RULES, Floor log).
--   l prints t         the text t is printed for the log l
--   log_rows           the worked logs
--   ArePrinted rows    what each row says is so
-- Assumes nothing.
use Prim.Native.String.{String}
use Rattle.std.specs.Prelude.{◌≡◌, List, [], ◌∷◌, codes}
use Rattle.floorlog.specs.Playing.{sample_device, replay_text}

infix 30 ◌prints◌
pub record PrintedLog : Type 0 where
  pub log : String
  pub text : String

abbrev pub ◌prints◌ : String → String → PrintedLog
l prints t = record { log = l; text = t }

-- the log of RULES, its last line without LF; no line; a closed place, one opened twice, a line that is swallowed, and
-- a closing; lines of no form: empty, too few digits, in upper case, none after `T`, too great a number, a lamp's mark
abbrev pub log_rows : List PrintedLog
log_rows =
    ("O 00000000\nR %1POWR 1\nT 3600\nR %1LAMP ?" prints
    "1 PJLINK 0\n2 %1POWR=OK\n3 -\n4 %1LAMP=1 1\npower 1 lamps 3600\n")
    ∷ ("" prints "power 0 lamps 0\n")
    ∷ ("X\nR %1POWR ?\nO 0000002a\nO 0000002a\nR %2POWR ?\nR \nX\nX\n" prints
    "1 ! 4\n2 ! 4\n3 PJLINK 0\n4 ! 5\n5 -\n6 -\n7 -\n8 ! 4\npower 0 lamps 0\n")
    ∷ ("\nO 0000000\nO 0000002A\nT \nT 4294967296\nM 1 0\n" prints
    "1 ?\n2 ?\n3 ?\n4 ?\n5 ?\n6 ?\npower 0 lamps 0\n")
    ∷ ("O 00000000\nR %1POWR 1\nT 20\nR %1POWR 0\nT 7\n" prints
    "1 PJLINK 0\n2 %1POWR=OK\n3 -\n4 %1POWR=OK\n5 -\npower 2 lamps 20\n")
    ∷ []

abbrev pub ArePrinted : List PrintedLog → Type 0
ArePrinted [] = Unit {0}
ArePrinted (row ∷ rows) = (replay_text sample_device (codes row.log) ≡ codes row.text) × ArePrinted rows
