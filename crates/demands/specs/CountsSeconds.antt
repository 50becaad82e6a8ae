-- DEMAND 3. "Time adds up. From any legal state, letting a seconds pass and then b gives the very state that a + b
-- gives at once, so long as a + b is at most 4,294,967,295. After any calls since set-up, refused ones counting as
-- nothing, each lamp's stored seconds are its starting seconds plus every second the history puts in warm-up or
-- power-on, stopped at 359,999,999; the hours answered are the whole hours in that."
-- TO BELIEVE IT, believe, and nothing else: one second (clock/specs/Second), and what is legal (record/specs); what an
-- outside observer sees of a history, and the observer's clock (History, here); the stored form (stored/specs/Form);
-- the line of a command and the text of lamps (pjlink/specs: Commands, Said; words/specs/Lamps; numbers/specs/Decimal);
-- ours/specs/Board; here Calls, CallsDone, and `BetweenLines` of SpeaksPjlink, `meaning` of controller/specs/Reading.
--   Beginning            how a history begins: with a set-up, or with the load of a stored form (RULES, Stored form),
--                        of the newest version with its marks, or of an older one, which loads as Class 1: version 2
--                        with its marks (RULES, Class 2), version 1 with none (RULES, Lamps)
--   start_marks b w      the marks at that beginning: all set after a set-up; after a load those of the form
--   IsAccepted B b w     the board B accepts the settings w at the beginning b
--   history_of B b w cs  what an outside observer sees of the calls cs since then
--   TimeAdds B           the adding law, which a clock that does nothing meets too (WrongClocks)
--   lamps_then w ms es   each lamp of the set-up as LAMP answers it after the history es
--   burnt_by_marks ..    the seconds of burning, each counted once for each mark that was set
--   LampsTold B ls r     the reply r says the lamps ls, and the reader reads them from it
-- Assumes nothing.
use Rattle.std.specs.Prelude.{ℕ, zero, suc, ◌+◌, ◌-◌, ◌/◌, ◌≤◌, ◌<◌, ◌≡◌, Bool, true, false, ◌&&◌, if◌then◌else◌}
use Rattle.std.specs.Prelude.{List, [], ◌∷◌, ◌++◌, length, set, replicate, slice_index_or, codes}
use Rattle.pjlink.specs.Commands.{command_line}
use Rattle.pjlink.specs.declared.command.Command.TheVariants.{Query}
use Rattle.pjlink.specs.declared.body.Body.TheVariants.{Lamp}
use Rattle.pjlink.specs.Said.{lamps_are, said_bytes}
use Rattle.words.specs.declared.lamp.LampHours.{LampHours}
use Rattle.record.specs.Limits.{lamp_limit, phase_open}
use Rattle.record.specs.Wanted.{Wanted}
use Rattle.record.specs.Legal.{is_legal}
use Rattle.record.specs.SetUp.{is_set_up}
use Rattle.stored.specs.Form.{form_of, marked_form_of, old_form_of}
use Rattle.clock.specs.Second.{times, second}
use Rattle.clock.specs.Passing.{seconds_most}
use Rattle.device.specs.Calls.{reply_room}
use Rattle.controller.specs.Reading.{meaning}
use Rattle.ours.specs.Board.{Board, Given, reply}
use Rattle.demands.specs.Calls.{Call, run}
use Rattle.demands.specs.CallsDone.{Leaves}
use Rattle.demands.specs.SpeaksPjlink.{BetweenLines}
use Rattle.demands.specs.History.{HistoryEvent, switched, a_second, mark_switched, no_streams, history, Stage, steady}
use Rattle.demands.specs.History.{next_stage, marks_after, burning_seconds, stage_after, is_burning_stage, lamp_with}

pub data Beginning : Type 0 where
  sets_up : Beginning
  loads : (marks : List Bool) → Beginning
  loads_marked : (marks : List Bool) → Beginning
  loads_old : Beginning

abbrev pub all_enabled : Wanted → List Bool
all_enabled w = replicate (length w.lamps) true

abbrev pub start_marks : Beginning → Wanted → List Bool
start_marks sets_up w = all_enabled w
start_marks (loads ms) w = ms
start_marks (loads_marked ms) w = ms
start_marks loads_old w = all_enabled w

-- the settings are those of a Class 1 set-up
pub record IsClass1 (w : Wanted) : Type 0 where
  pub set_up : is_set_up w ≡ true
  pub class_1 : w.class ≡ 1

module _ {R : Type 0} (B : Board R) where
  abbrev pub begun_by : Beginning → Wanted → Given R
  begun_by sets_up w = B.set_up w
  begun_by (loads ms) w = B.load (form_of w ms)
  begun_by (loads_marked ms) w = B.load (marked_form_of w ms)
  begun_by loads_old w = B.load (old_form_of w)

  -- what loads is the form of settings that a set-up takes, and of no others (BoardSwap)
  abbrev pub IsAccepted : Beginning → Wanted → Type 0
  IsAccepted sets_up w = (B.set_up w).number ≡ 0
  IsAccepted (loads ms) w = (is_set_up w ≡ true) × ((B.load (form_of w ms)).number ≡ 0)
  IsAccepted (loads_marked ms) w = IsClass1 w × ((B.load (marked_form_of w ms)).number ≡ 0)
  IsAccepted loads_old w = IsClass1 w × ((B.load (old_form_of w)).number ≡ 0)

  abbrev pub run_of : Beginning → Wanted → List Call → R
  run_of b w cs = run B (begun_by b w).device cs

  abbrev pub history_of : Beginning → Wanted → List Call → List HistoryEvent
  history_of b w cs = history B (begun_by b w).device no_streams cs

-- the lamp at index k, which started with so many seconds
abbrev pub lamp_then : Wanted → List Bool → List HistoryEvent → ℕ → ℕ → LampHours
lamp_then w ms es k start = record {
  hours = lamp_with (burning_seconds w ms k es) start / 3600;
  lit = is_burning_stage (stage_after w es) && slice_index_or (marks_after ms es) k false;
}

abbrev pub each_place : {A : Type 0} → (ℕ → ℕ → A) → ℕ → List ℕ → List A
each_place f k [] = []
each_place f k (x ∷ xs) = f k x ∷ each_place f (suc k) xs

abbrev pub lamps_then : Wanted → List Bool → List HistoryEvent → List LampHours
lamps_then w ms es = each_place (lamp_then w ms es) 0 w.lamps

-- the fleet's question (RULES, Lamps): the seconds of burning, each counted once for each mark that was set
abbrev pub count_set : List Bool → ℕ
count_set [] = 0
count_set (m ∷ ms) = (if m then 1 else 0) + count_set ms

abbrev pub burnt_by_marks : Wanted → Stage → List Bool → List HistoryEvent → ℕ
burnt_by_marks w g ms [] = 0
burnt_by_marks w g ms (a_second ∷ es) =
    (if is_burning_stage g then count_set ms else 0) + burnt_by_marks w (next_stage w g a_second) ms es
burnt_by_marks w g ms (switched wanted ∷ es) = burnt_by_marks w (next_stage w g (switched wanted)) ms es
burnt_by_marks w g ms (mark_switched lamp mark ∷ es) =
    burnt_by_marks w (next_stage w g (mark_switched lamp mark)) (set ms lamp mark) es

abbrev pub sum_of : ℕ → (ℕ → ℕ) → ℕ
sum_of zero f = 0
sum_of (suc n) f = sum_of n f + f n

-- `%1LAMP=` and, joined by spaces, each lamp's hours in decimal digits, a space and 1 or 0
abbrev pub lamp_line : List LampHours → List ℕ
lamp_line ls = codes "%1LAMP=" ++ said_bytes (lamps_are ls) ++ codes "\r"

pub record LampsTold {R : Type 0} (B : Board R) (ls : List LampHours) (answer : List ℕ) : Type 0 where
  pub bytes : answer ≡ lamp_line ls
  pub read : B.read_reply (Query Lamp) answer ≡ meaning (lamps_are ls)

-- the whole result, number and record
abbrev pub TimeAdds : {R : Type 0} → Board R → Type 0
TimeAdds {R = R} B = (d : R) (a b : ℕ) → is_legal (B.shows d) ≡ true → a + b ≤ seconds_most
    → B.pass (B.pass d a).device b ≡ B.pass d (a + b)

pub record CountsSeconds {R : Type 0} (B : Board R) : Type 0 where
  -- "From any legal state, letting a seconds pass and then b gives the very state that a + b gives at once, so long as
  -- a + b is at most 4,294,967,295"
  pub time_adds : TimeAdds B
  -- RULES, Time: n seconds are one second, n times
  pub second_by_second : (d : R) (n : ℕ) → Leaves B (B.pass d n) (times second n (B.shows d))
  -- "After any calls since set-up, refused ones counting as nothing, each lamp's stored seconds are its starting
  -- seconds plus every second the history puts in warm-up or power-on, stopped at 359,999,999"; RULES, Places: the
  -- history is the accepted calls of all places, in the order made
  pub lamps_tell_the_history : (b : Beginning) (w : Wanted) (cs : List Call) (place : ℕ) → IsAccepted B b w
      → place < length w.lamps
      → slice_index_or (B.shows (run_of B b w cs)).own.lamps place 0
      ≡ lamp_with (burning_seconds w (start_marks b w) place (history_of B b w cs)) (slice_index_or w.lamps place 0)
  -- RULES, Lamps: while no lamp reaches the limit, the seconds gained, added up over the lamps, are the seconds of
  -- burning, each counted once for each mark that was set
  pub fleet_adds_up : (b : Beginning) (w : Wanted) (cs : List Call) → IsAccepted B b w
      → ((k : ℕ) → k < length w.lamps
      → slice_index_or w.lamps k 0 + burning_seconds w (start_marks b w) k (history_of B b w cs) ≤ lamp_limit)
      → sum_of (length w.lamps)
      (λ k. slice_index_or (B.shows (run_of B b w cs)).own.lamps k 0 - slice_index_or w.lamps k 0)
      ≡ burnt_by_marks w (steady false) (start_marks b w) (history_of B b w cs)
  -- "the hours answered are the whole hours in that": LAMP, asked at any place on an open connection between lines, the
  -- reply's bytes and what our reader reads from them
  pub hours_told : (b : Beginning) (w : Wanted) (cs : List Call) (p : ℕ) (m : List ℕ) → IsAccepted B b w
      → 1 ≤ length w.lamps → BetweenLines phase_open (B.shows (run_of B b w cs)) p → reply_room ≤ length m
      → let r = B.receive (run_of B b w cs) p (command_line (Query Lamp)) m in
      LampsTold B (lamps_then w (start_marks b w) (history_of B b w cs)) (reply r)
