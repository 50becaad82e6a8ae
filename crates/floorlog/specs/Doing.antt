-- What an event of a log does and what is printed for it, by the definitions of the calls (RULES, Floor log).
--   log_place           the place at which a log's events happen (RULES, Places)
--   opened_in_log d r   the opening of a connection there: a second `O` is refused with 5, by the replay's own test;
--                       any other is the device's opening, which takes that place (proofs/OnePlace.antt)
--   EventResult         what an event gives: a call's result, refused with the number that is printed
--   with_numbers c      the call's result c as an event's: its refusal as a number, and no answer
--   event_result d e    what the event e does to the device d
--   result_text e r     what is printed for an event with that result: the reply without its CR, `-` for none, `! ` and
--                       the number of a refusal, or `?` for a line of no such form
--   event_number r      the number of an event's call with that result
--   event_answer e r    the same for the event e; None for a line of no form
--   printed_line n e r  the printed line: the line number n, a space, what is printed for the event e with the result
--                       r, and LF
-- Assumes nothing.
use Rattle.std.specs.Prelude.{ℕ, not, List, [], ◌∷◌, ◌++◌, codes, Some, None, Result, Ok, Err}
use Rattle.std.specs.declared.option.Option.{Option}
use Rattle.text.specs.Rows.{RefusalRow, ◌when◌, by_rows}
use Rattle.text.specs.Outcomes.{CallResult, served_as, refused_as, call_number}
use Rattle.numbers.specs.Decimal.{long_digits}
use Rattle.record.specs.Legal.{is_legal}
use Rattle.record.specs.Places.{connection_at, is_closed}
use Rattle.record.specs.declared.types.Device.{Device}
use Rattle.record.specs.Refusals.{refusal_number}
use Rattle.record.specs.declared.refusal.Refusal.{Refusal}
use Rattle.clock.specs.Passing.{time_passed}
use Rattle.device.specs.Calls.{reply_room, received_at, opened_by, closed_by}
use Rattle.floorlog.specs.Outcomes.{reply_text, refusal_shown}
use Rattle.floorlog.specs.Events.{LogEvent, opens, receives, passes, closes, no_such}

abbrev pub EventResult : Type 0
EventResult = CallResult ℕ (Unit {0}) Device

abbrev pub number_said : {A : Type 0} → Result A Refusal → Result (Unit {0}) ℕ
number_said (Ok a) = Ok tt
number_said (Err e) = Err (refusal_number e)

abbrev pub with_numbers : {A : Type 0} → CallResult Refusal A Device → EventResult
with_numbers c = record { says = number_said c.says; bytes = c.bytes; leaves = c.leaves }

abbrev pub log_place : ℕ
log_place = 0

-- 5 is where the table of opening has it; its 2 never applies, as a line is printed into enough room
abbrev pub log_opening_rows : Device → List (RefusalRow ℕ)
log_opening_rows d = (1 when not (is_legal d)) ∷ (5 when not (is_closed (connection_at d log_place))) ∷ []

unfoldable pub opened_in_log : Device → ℕ → EventResult
opened_in_log d r = by_rows (log_opening_rows d) (refused_as d) (with_numbers (opened_by d r reply_room))

unfoldable pub event_result : Device → LogEvent → EventResult
event_result d (opens r) = opened_in_log d r
event_result d (receives bs) = with_numbers (received_at d log_place bs reply_room)
event_result d (passes n) = with_numbers (time_passed d n)
event_result d closes = with_numbers (closed_by d log_place)
event_result d no_such = served_as tt [] d

abbrev pub outcome_shown : Result (Unit {0}) ℕ → List ℕ → List ℕ
outcome_shown (Ok u) reply = reply_text reply
outcome_shown (Err n) reply = refusal_shown n

abbrev pub outcome : EventResult → List ℕ
outcome r = outcome_shown r.says r.bytes

abbrev pub event_number : EventResult → ℕ
event_number r = call_number (λ n. n) r

abbrev pub result_text : LogEvent → EventResult → List ℕ
result_text no_such r = codes "?"
result_text e r = outcome r

abbrev pub event_answer : LogEvent → EventResult → Option ℕ
event_answer no_such r = None
event_answer e r = Some (event_number r)

unfoldable pub printed_line : ℕ → LogEvent → EventResult → List ℕ
printed_line n e r = long_digits n ++ codes " " ++ result_text e r ++ codes "\n"
