-- Demand 3's history (RULES, Time): what an outside observer knows who sees the bytes passed to calls, the numbers, the
-- counts and the replies, and never a record.
--   Streams               for each place all bytes that were taken there so far, joined: no phases, no digests, no
--                         limits, and no connections, though a place may be closed and opened again (RULES, Places)
--   power_set s r         a power set that was answered OK: the reply r says so, and the stream s ends in the set's
--                         line
--   history B d w cs      the power sets answered OK, at any place, the seconds passed and the marks set, in the order
--                         made; a refused call counts as nothing
--   Stage                 the observer's clock, which starts off: steady, or on the way there for so many seconds
--   marks_after ms es     the marks after the events es, one a lamp: ms, and the mark calls that gave 0 (RULES, Lamps)
--   burning_seconds w ms k es  the seconds of a history that are in warm-up or power-on with the mark of the lamp at
--                              index k set, where it began with the marks ms
--   lamp_with n start     a lamp's seconds: those it started with and the n that it burnt, stopped at 359,999,999
-- Assumes nothing.
use Rattle.std.specs.Prelude.{ℕ, ◌+◌, ◌-◌, min, Bool, true, false, not, ◌&&◌, if◌then◌else◌}
use Rattle.std.specs.Prelude.{List, [], ◌∷◌, ◌++◌, length, take, drop, replicate, set, nat_le, ◌==◌, slice_index_or}
use Rattle.std.specs.Prelude.{codes}
use Prim.Native.String.{String}
use Rattle.text.specs.Scans.{is_same_by}
use Rattle.words.specs.Bytes.{upper_of}
use Rattle.record.specs.Limits.{lamp_limit}
use Rattle.record.specs.Wanted.{Wanted}
use Rattle.ours.specs.Board.{Board, reply}
use Rattle.demands.specs.Calls.{Call, receives, passes, enables, after}

infix 40 ◌says◌
infix 40 ◌ends_in◌
-- ---- what the observer sees

-- in any case of letters
abbrev pub ◌says◌ : List ℕ → String → Bool
bs says t = is_same_by upper_of bs (codes t)

abbrev pub ◌ends_in◌ : List ℕ → String → Bool
bs ends_in t = drop (length bs - length (codes t)) bs says t

pub data HistoryEvent : Type 0 where
  switched : (wanted : Bool) → HistoryEvent
  a_second : HistoryEvent
  mark_switched : (lamp : ℕ) (mark : Bool) → HistoryEvent

unfoldable pub power_set : List ℕ → List ℕ → List HistoryEvent
power_set stream answer =
    if not (answer says "%1POWR=OK\r") then []
    else if stream ends_in "%1POWR 1\r" then switched true ∷ []
    else if stream ends_in "%1POWR 0\r" then switched false ∷ []
    else []

abbrev pub Streams : Type 0
Streams = ℕ → List ℕ

abbrev pub no_streams : Streams
no_streams q = []

-- the stream of place p continues with these bytes, and no other one does
abbrev pub going_on_at : Streams → ℕ → List ℕ → Streams
going_on_at w p bs q = if q == p then w q ++ bs else w q

module _ {R : Type 0} (B : Board R) where
  -- the streams with the bytes that a call took
  abbrev pub streams_after : R → Streams → Call → Streams
  streams_after d w (receives p bs m) =
      if (B.receive d p bs m).number == 0 then going_on_at w p (take (B.receive d p bs m).taken bs) else w
  streams_after d w c = w

  -- what is seen of a call; the bytes that it took are in its place's stream already
  abbrev pub seen : R → Streams → Call → List HistoryEvent
  seen d w (receives p bs m) =
      if (B.receive d p bs m).number == 0 then power_set (w p) (reply (B.receive d p bs m)) else []
  seen d w (passes n) = if (B.pass d n).number == 0 then replicate n a_second else []
  seen d w (enables lamp mark) = if (B.set_mark d lamp mark).number == 0 then mark_switched lamp mark ∷ [] else []
  seen d w c = []

  abbrev pub history : R → Streams → List Call → List HistoryEvent
  history d w [] = []
  history d w (c ∷ cs) = seen d (streams_after d w c) c ++ history (after B d c) (streams_after d w c) cs

-- ---- the observer's clock

-- warm-up is on the way to on, cooling on the way to off
pub data Stage : Type 0 where
  steady : (on : Bool) → Stage
  towards : (on : Bool) (seconds : ℕ) → Stage

abbrev pub next_stage : Wanted → Stage → HistoryEvent → Stage
next_stage w (steady false) (switched true) = towards true w.warm
next_stage w (steady true) (switched false) = towards false w.cool
next_stage w (steady true) (switched true) = steady true
next_stage w (steady false) (switched false) = steady false
next_stage w (towards on n) (switched wanted) = towards on n
next_stage w (steady on) a_second = steady on
next_stage w (towards on n) a_second = if nat_le n 1 then steady on else towards on (n - 1)
next_stage w (steady on) (mark_switched lamp mark) = steady on
next_stage w (towards on n) (mark_switched lamp mark) = towards on n

-- the marks, one a lamp
abbrev pub marks_next : List Bool → HistoryEvent → List Bool
marks_next ms (mark_switched lamp mark) = set ms lamp mark
marks_next ms e = ms

abbrev pub marks_after : List Bool → List HistoryEvent → List Bool
marks_after ms [] = ms
marks_after ms (e ∷ es) = marks_after (marks_next ms e) es

-- lamps burn in power-on and on the way there
abbrev pub is_burning_stage : Stage → Bool
is_burning_stage (steady on) = on
is_burning_stage (towards on n) = on

-- the lamp at index k, if its mark is set (RULES, Lamps)
abbrev pub burnt_in : Stage → List Bool → ℕ → HistoryEvent → ℕ
burnt_in g ms k a_second = if is_burning_stage g && slice_index_or ms k false then 1 else 0
burnt_in g ms k e = 0

abbrev pub stage_from : Wanted → Stage → List HistoryEvent → Stage
stage_from w g [] = g
stage_from w g (e ∷ es) = stage_from w (next_stage w g e) es

abbrev pub burning_from : Wanted → Stage → List Bool → ℕ → List HistoryEvent → ℕ
burning_from w g ms k [] = 0
burning_from w g ms k (e ∷ es) = burnt_in g ms k e + burning_from w (next_stage w g e) (marks_next ms e) k es

abbrev pub burning_seconds : Wanted → List Bool → ℕ → List HistoryEvent → ℕ
burning_seconds w ms k es = burning_from w (steady false) ms k es

-- a device starts off
abbrev pub stage_after : Wanted → List HistoryEvent → Stage
stage_after w es = stage_from w (steady false) es

abbrev pub lamp_with : ℕ → ℕ → ℕ
lamp_with n start = min lamp_limit (start + n)
