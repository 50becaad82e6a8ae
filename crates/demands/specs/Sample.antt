-- The device of the lines that settle the rules, on which wrong boards are tried and lines are computed (Settled): W =
-- 20, C = 60, one lamp at 0 s, input 11, texts empty, no password. Then the same device set up for Class 2 (RULES,
-- Class 2), with the inputs 11 and 6A, their names, a serial number and a version.
--   sample, class_2_sample   the settings of these two devices
--   texts_sample             the sample with a name, maker, model and other information, and two inputs
--   lamps_sample             the sample with three lamps;    no_lamps_sample    with none
--   sockets, long_named      set-ups of the longest replies: 32 inputs (RULES, Inputs), and an input's name of Class 2
--   memory                   the reply memory that calls are given
--   with_cr t                the line t with its CR
--   says t                   the line t, received at place 0
--   opened_after w           our device set up with w, off, opened at place 0, between lines
--   two_opened B             the board set up with the sample, opened at places 0 and 1
--   halves                   a power set at place 0 and a power query at place 1, each in two halves, by turns
--   rounds n cs              the calls cs, n times
-- Assumes nothing.
use Rattle.std.specs.Prelude.{ℕ, zero, suc, List, [], ◌∷◌, ◌++◌, replicate, codes}
use Prim.Native.Char.{code}
use Prim.Native.String.{String}
use Rattle.words.specs.Texts.{input_name_most}
use Rattle.record.specs.Wanted.{Wanted, wanted_of, wanted_of_2}
use Rattle.record.specs.declared.types.Device.{Device}
use Rattle.ours.specs.Board.{Board, ours}
use Rattle.demands.specs.Calls.{Call, opens, receives, run}

abbrev pub sample : Wanted
sample = wanted_of [] [] [] [] [] (codes "11") (0 ∷ []) 20 60

abbrev pub class_2_sample : Wanted
class_2_sample =
    wanted_of_2 [] [] [] [] [] (codes "116A") (0 ∷ []) 20 60 (codes "SN 7") (codes "1.04")
    (codes "Camera" ∷ codes "Disk" ∷ [])

abbrev pub texts_sample : Wanted
texts_sample =
    wanted_of (codes "Table 3") (codes "Kunimi") (codes "K-20") (codes "Room 2") [] (codes "3211") (0 ∷ []) 20 60

abbrev pub lamps_sample : Wanted
lamps_sample = wanted_of [] [] [] [] [] (codes "11") (3599 ∷ 7200 ∷ 359999999 ∷ []) 20 60

abbrev pub no_lamps_sample : Wanted
no_lamps_sample = wanted_of [] [] [] [] [] (codes "11") [] 20 60

abbrev pub sockets : Wanted
sockets =
    wanted_of [] [] [] [] [] (codes "1112131415161718192122232425262728293132333435363738394142434445") (0 ∷ []) 20 60

abbrev pub long_named : Wanted
long_named = wanted_of_2 [] [] [] [] [] (codes "11") (0 ∷ []) 20 60 [] [] (replicate input_name_most (code "n") ∷ [])

abbrev pub memory : List ℕ
memory = replicate 136 0

abbrev pub with_cr : String → List ℕ
with_cr t = codes t ++ codes "\r"

abbrev pub says : String → Call
says t = receives 0 (with_cr t) memory

abbrev pub rounds : ℕ → List Call → List Call
rounds zero cs = []
rounds (suc n) cs = cs ++ rounds n cs

abbrev pub opened_after : Wanted → Device
opened_after w = (ours.opening (ours.set_up w).device 0 memory).device

module _ {R : Type 0} (B : Board R) where
  abbrev pub two_opened : R
  two_opened = run B (B.set_up sample).device (opens 0 memory ∷ opens 0 memory ∷ [])

abbrev pub halves : List Call
halves =
    receives 0 (codes "%1PO") memory ∷ receives 1 (codes "%1PO") memory
    ∷ receives 0 (with_cr "WR 1") memory ∷ receives 1 (with_cr "WR ?") memory ∷ []
