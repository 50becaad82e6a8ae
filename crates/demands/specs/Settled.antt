-- RULES, Commands, "Lines that settle it", as one statement over lists of rows; then RULES, Class 2. A row has a call,
-- its number and its reply, and the calls before it on a board that was just set up and opened at place 0.
--   t gives u after cs      the answer to the line t is u, after the calls cs
--   t is_unanswered_after cs   the line t is served, and has no reply
--   t is_refused n after cs    the call on the line t is refused with the number n
--   r greets u              an opening with the random number r writes u
--   a and b after cs        the speaker's volume is a, the microphone's b: no line asks for them, the host reads them
--                           from the record
--   on_then cs              power-on, the 20 s of warm-up, then the calls cs
--   Settles B               every row of Class 1 holds of the board B
--   SettlesClass2 B         every row of Class 2 holds of the board B
-- Assumes nothing.
use Prim.Native.String.{String}
use Rattle.std.specs.Prelude.{ℕ, ◌≡◌, true, false, List, [], ◌∷◌, take}
use Rattle.record.specs.Wanted.{Wanted}
use Rattle.ours.specs.Board.{Board}
use Rattle.demands.specs.Calls.{Call, opens, passes, faults, reports, enables, Gave, gave_by, run}
use Rattle.demands.specs.Sample.{sample, class_2_sample, texts_sample, lamps_sample, no_lamps_sample}
use Rattle.demands.specs.Sample.{memory, with_cr, says, rounds}
use Rattle.demands.specs.WrongDoors.{secured_sample}

infix 30 ◌gives◌after◌
infix 30 ◌is_unanswered_after◌
infix 30 ◌is_refused◌after◌
infix 30 ◌greets◌
infix 30 ◌and◌after◌
-- nine sessions of forty minutes are six hours
abbrev pub nine_sessions : List Call
nine_sessions = rounds 9 (says "%1POWR 1" ∷ passes 2400 ∷ says "%1POWR 0" ∷ passes 60 ∷ [])

abbrev pub on_then : List Call → List Call
on_then cs = says "%1POWR 1" ∷ passes 20 ∷ cs

-- the result of a call: its number, and the reply's bytes
pub record CameOut : Type 0 where
  pub number : ℕ
  pub reply : List ℕ

pub record SettledLine : Type 0 where
  pub call : Call
  pub out : CameOut
  pub before : List Call

abbrev pub ◌gives◌after◌ : String → String → List Call → SettledLine
t gives u after cs = record { call = says t; out = record { number = 0; reply = with_cr u }; before = cs }

abbrev pub ◌is_unanswered_after◌ : String → List Call → SettledLine
t is_unanswered_after cs = record { call = says t; out = record { number = 0; reply = [] }; before = cs }

abbrev pub ◌is_refused◌after◌ : String → ℕ → List Call → SettledLine
t is_refused n after cs = record { call = says t; out = record { number = n; reply = [] }; before = cs }

abbrev pub ◌greets◌ : ℕ → String → SettledLine
r greets u = record { call = opens r memory; out = record { number = 0; reply = with_cr u }; before = [] }

pub record SettledVolumes : Type 0 where
  pub speaker : ℕ
  pub microphone : ℕ
  pub before : List Call

abbrev pub ◌and◌after◌ : ℕ → ℕ → List Call → SettledVolumes
a and b after cs = record { speaker = a; microphone = b; before = cs }

-- the sample, with the power off unless a row says otherwise
abbrev pub rows : List SettledLine
rows =
    ("%1powr 1" gives "%1powr=OK" after [])
    ∷ ("%1POWR 2" gives "%1POWR=ERR2" after [])
    ∷ ("%1ABCD x" gives "%1ABCD=ERR1" after [])
    ∷ ("%1NAME x" gives "%1NAME=ERR1" after [])
    ∷ ("%1CLSS ?" gives "%1CLSS=1" after [])
    ∷ ("%1INPT ?" gives "%1INPT=ERR3" after [])
    ∷ ("%1INPT 12" gives "%1INPT=ERR2" after [])
    ∷ ("%1POWR ?" gives "%1POWR=3" after says "%1POWR 1" ∷ passes 19 ∷ [])
    ∷ ("%1POWR ?" gives "%1POWR=1" after says "%1POWR 1" ∷ passes 20 ∷ [])
    ∷ ("%1LAMP ?" gives "%1LAMP=0 1" after says "%1POWR 1" ∷ passes 3599 ∷ [])
    ∷ ("%1LAMP ?" gives "%1LAMP=1 1" after says "%1POWR 1" ∷ passes 3600 ∷ [])
    ∷ ("%1LAMP ?" gives "%1LAMP=6 0" after nine_sessions)
    ∷ []

-- warm-up lasts W, cooling C: neither is left before, nor by a line
abbrev pub power_rows : List SettledLine
power_rows =
    ("%1POWR ?" gives "%1POWR=0" after [])
    ∷ ("%1POWR 0" gives "%1POWR=ERR3" after says "%1POWR 1" ∷ passes 19 ∷ [])
    ∷ ("%1POWR ?" gives "%1POWR=2" after on_then (says "%1POWR 0" ∷ passes 59 ∷ []))
    ∷ ("%1POWR 1" gives "%1POWR=ERR3" after on_then (says "%1POWR 0" ∷ passes 59 ∷ []))
    ∷ ("%1POWR ?" gives "%1POWR=0" after on_then (says "%1POWR 0" ∷ passes 60 ∷ []))
    ∷ []

-- the first digit of a set is 1 video, 2 audio, 3 both; the half not named stays
abbrev pub mute_rows : List SettledLine
mute_rows =
    ("%1AVMT ?" gives "%1AVMT=ERR3" after [])
    ∷ ("%1AVMT 40" gives "%1AVMT=ERR2" after [])
    ∷ ("%1AVMT ?" gives "%1AVMT=30" after on_then [])
    ∷ ("%1AVMT 31" gives "%1AVMT=OK" after on_then [])
    ∷ ("%1AVMT ?" gives "%1AVMT=11" after on_then (says "%1AVMT 11" ∷ []))
    ∷ ("%1AVMT ?" gives "%1AVMT=21" after on_then (says "%1AVMT 21" ∷ []))
    ∷ ("%1AVMT ?" gives "%1AVMT=31" after on_then (says "%1AVMT 31" ∷ []))
    ∷ ("%1AVMT ?" gives "%1AVMT=31" after on_then (says "%1AVMT 11" ∷ says "%1AVMT 21" ∷ []))
    ∷ ("%1AVMT ?" gives "%1AVMT=21" after on_then (says "%1AVMT 31" ∷ says "%1AVMT 10" ∷ []))
    ∷ ("%1AVMT ?" gives "%1AVMT=11" after on_then (says "%1AVMT 31" ∷ says "%1AVMT 20" ∷ []))
    ∷ ("%1AVMT ?" gives "%1AVMT=30" after on_then (says "%1AVMT 31" ∷ says "%1AVMT 30" ∷ []))
    ∷ []

-- the host reports fan, lamp, temperature, cover, filter, other, and sets the fault flag. With the flag POWR, INPT and
-- AVMT are ERR4, set and query, after ERR2 and before ERR3; the other queries answer
abbrev pub host_rows : List SettledLine
host_rows =
    ("%1ERST ?" gives "%1ERST=000000" after [])
    ∷ ("%1ERST ?" gives "%1ERST=120010" after reports (1 ∷ 2 ∷ 0 ∷ 0 ∷ 1 ∷ 0 ∷ []) ∷ [])
    ∷ ("%1POWR ?" gives "%1POWR=ERR4" after faults true ∷ [])
    ∷ ("%1POWR 1" gives "%1POWR=ERR4" after faults true ∷ [])
    ∷ ("%1POWR 2" gives "%1POWR=ERR2" after faults true ∷ [])
    ∷ ("%1INPT ?" gives "%1INPT=ERR4" after faults true ∷ [])
    ∷ ("%1INPT 11" gives "%1INPT=ERR4" after faults true ∷ [])
    ∷ ("%1AVMT ?" gives "%1AVMT=ERR4" after faults true ∷ [])
    ∷ ("%1AVMT 30" gives "%1AVMT=ERR4" after faults true ∷ [])
    ∷ ("%1ERST ?" gives "%1ERST=000000" after faults true ∷ [])
    ∷ ("%1LAMP ?" gives "%1LAMP=0 0" after faults true ∷ [])
    ∷ ("%1POWR ?" gives "%1POWR=0" after faults true ∷ faults false ∷ [])
    ∷ []

-- each text by its own query, and inputs in the set-up's order, of which the first is chosen
abbrev pub text_rows : List SettledLine
text_rows =
    ("%1NAME ?" gives "%1NAME=Table 3" after [])
    ∷ ("%1INF1 ?" gives "%1INF1=Kunimi" after [])
    ∷ ("%1INF2 ?" gives "%1INF2=K-20" after [])
    ∷ ("%1INFO ?" gives "%1INFO=Room 2" after [])
    ∷ ("%1INST ?" gives "%1INST=32 11" after [])
    ∷ ("%1INPT ?" gives "%1INPT=32" after on_then [])
    ∷ ("%1INPT ?" gives "%1INPT=11" after on_then (says "%1INPT 11" ∷ []))
    ∷ []

-- lamps at 3,599 s, at two hours, and at the limit; lamps are numbered from 0
abbrev pub lamp_rows : List SettledLine
lamp_rows =
    ("%1LAMP ?" gives "%1LAMP=0 0 2 0 99999 0" after [])
    ∷ ("%1LAMP ?" gives "%1LAMP=1 1 2 1 99999 1" after says "%1POWR 1" ∷ passes 1 ∷ [])
    ∷ ("%1LAMP ?" gives "%1LAMP=1 1 2 0 99999 1" after enables 1 false ∷ says "%1POWR 1" ∷ passes 3600 ∷ [])
    ∷ []

abbrev pub no_lamp_rows : List SettledLine
no_lamp_rows =
    ("%1LAMP ?" gives "%1LAMP=ERR1" after [])
    ∷ []

-- a connection that is open never times out; a line of no form of its class is swallowed
abbrev pub open_rows : List SettledLine
open_rows =
    (1234061927 greets "PJLINK 0")
    ∷ ("%1CLSS ?" gives "%1CLSS=1" after passes 30 ∷ [])
    ∷ ("%2CLSS ?" is_unanswered_after [])
    ∷ ("%1CLSS" is_unanswered_after [])
    ∷ []

-- with a password, 498e4a67 being the random number of PJLink's example: awaiting, and failed once refused, each closes
-- at its own age of 30 s
abbrev pub awaiting_rows : List SettledLine
awaiting_rows =
    (1234061927 greets "PJLINK 1 498e4a67")
    ∷ ("%1POWR 1" gives "PJLINK ERRA" after [])
    ∷ ("%1POWR 1" gives "PJLINK ERRA" after passes 29 ∷ [])
    ∷ ("%1POWR 1" is_refused 4 after passes 30 ∷ [])
    ∷ ("%1POWR 1" is_unanswered_after passes 29 ∷ says "x" ∷ passes 29 ∷ [])
    ∷ ("%1POWR 1" is_refused 4 after passes 29 ∷ says "x" ∷ passes 30 ∷ [])
    ∷ []

-- a line is of its own class: its body is one of that class, and its reply has the class as received
abbrev pub class_2_rows : List SettledLine
class_2_rows =
    ("%1CLSS ?" gives "%1CLSS=2" after [])
    ∷ ("%2CLSS ?" gives "%2CLSS=ERR1" after [])
    ∷ ("%2snum ?" gives "%2snum=SN 7" after [])
    ∷ ("%2SVER ?" gives "%2SVER=1.04" after [])
    ∷ ("%2INNM ?6A" gives "%2INNM=Disk" after [])
    ∷ ("%2INNM ?12" gives "%2INNM=ERR2" after [])
    ∷ ("%1INST ?" gives "%1INST=11 6A" after [])
    ∷ ("%2SVOL ?" gives "%2SVOL=ERR2" after [])
    ∷ ("%2SVOL 1" gives "%2SVOL=ERR3" after [])
    ∷ ("%2MVOL 0" gives "%2MVOL=ERR3" after [])
    ∷ ("%2FREZ 1" gives "%2FREZ=ERR3" after [])
    ∷ []

abbrev pub class_2_on_rows : List SettledLine
class_2_on_rows =
    ("%2FREZ ?" gives "%2FREZ=0" after on_then [])
    ∷ ("%2FREZ ?" gives "%2FREZ=1" after on_then (says "%2FREZ 1" ∷ []))
    ∷ ("%1INPT ?" gives "%1INPT=6A" after on_then (says "%2INPT 6A" ∷ []))
    ∷ ("%2SVOL 1" gives "%2SVOL=ERR4" after on_then (faults true ∷ []))
    ∷ ("%2FREZ ?" gives "%2FREZ=ERR4" after on_then (faults true ∷ []))
    ∷ ("%2SNUM ?" gives "%2SNUM=SN 7" after on_then (faults true ∷ []))
    ∷ ("%2SVOL 1" gives "%2SVOL=OK" after on_then (rounds 10 (says "%2SVOL 1" ∷ [])))
    ∷ ("%2MVOL 0" gives "%2MVOL=OK" after on_then (rounds 10 (says "%2MVOL 0" ∷ [])))
    ∷ []

-- ten at set-up; a step is one, up or down, from 0 to 20, and a refused step changes nothing
abbrev pub volume_rows : List SettledVolumes
volume_rows =
    (10 and 10 after [])
    ∷ (10 and 10 after says "%2SVOL 1" ∷ says "%2MVOL 0" ∷ [])
    ∷ (11 and 9 after on_then (says "%2SVOL 1" ∷ says "%2MVOL 0" ∷ []))
    ∷ (9 and 11 after on_then (says "%2SVOL 0" ∷ says "%2MVOL 1" ∷ []))
    ∷ (19 and 1 after on_then (rounds 9 (says "%2SVOL 1" ∷ says "%2MVOL 0" ∷ [])))
    ∷ (20 and 0 after on_then (rounds 11 (says "%2SVOL 1" ∷ says "%2MVOL 0" ∷ [])))
    ∷ []

module _ {R : Type 0} (B : Board R) where
  -- the board just set up so, opened at place 0, after these calls
  abbrev pub used : Wanted → List Call → R
  used w cs = run B (B.set_up w).device (opens 0 memory ∷ cs)

  abbrev pub came_out : Gave → CameOut
  came_out g = record { number = g.number; reply = take g.length g.memory }

  abbrev pub Holds : Wanted → SettledLine → Type 0
  Holds w row = came_out (gave_by B (used w row.before) row.call) ≡ row.out

  abbrev pub All : Wanted → List SettledLine → Type 0
  All w [] = Unit {0}
  All w (row ∷ rows) = Holds w row × All w rows

  abbrev pub ShowsVolumes : Wanted → SettledVolumes → Type 0
  ShowsVolumes w row =
      let o = (B.shows (used w row.before)).own in
      (o.speaker ≡ row.speaker) × (o.microphone ≡ row.microphone)

  abbrev pub AllVolumes : Wanted → List SettledVolumes → Type 0
  AllVolumes w [] = Unit {0}
  AllVolumes w (row ∷ rows) = ShowsVolumes w row × AllVolumes w rows

  pub record Settles : Type 0 where
    pub lines : All sample rows
    pub power : All sample power_rows
    pub mutes : All sample mute_rows
    pub host : All sample host_rows
    pub texts : All texts_sample text_rows
    pub lamps : All lamps_sample lamp_rows
    pub no_lamps : All no_lamps_sample no_lamp_rows
    pub opened : All sample open_rows
    pub awaiting : All secured_sample awaiting_rows

  pub record SettlesClass2 : Type 0 where
    pub lines : All class_2_sample class_2_rows
    pub on : All class_2_sample class_2_on_rows
    pub volumes : AllVolumes class_2_sample volume_rows
