-- A log as events, one a line (RULES, Floor log).
--   LogEvent           an event: a connection opened with a random number; bytes received; seconds passed; the
--                      connection closed; or a line that has none of these forms, which changes nothing
--   event_said e       the event e of the code, as a LogEvent
--   log_line_most          how many bytes a line has at most, without its LF
--   l starts "O"       the line l begins with that letter and a space
--   random_said s      `O`: s is eight lowercase hex digits, the random number
--   seconds_said s     `T`: s is one to ten decimal digits of a number of seconds, at most 4,294,967,295
--   form_said l        the event of l by which of the four forms it has: a text is received with a CR after it
--   event l            the event of the line l: that, if it has at most `log_line_most` bytes and no CR in it, else one
--                      of no form
--   events log         the events of a log
-- Assumes nothing.
use Rattle.std.specs.List.{list_all}
use Rattle.std.specs.Prelude.{ℕ, Bool, ◌&&◌, List, ◌++◌, length, map, drop, codes, if◌then◌else◌, nat_le, ◌==◌}
use Prim.Native.Char.{Char}
use Rattle.text.specs.Words.{◌is◌}
use Rattle.numbers.specs.Decimal.{is_digit, decimal_value}
use Rattle.digest.specs.Hex.{is_hex_digit, hex_value}
use Rattle.words.specs.Bytes.{◌at◌, is_cr_free}
use Rattle.clock.specs.Passing.{seconds_most}
use Rattle.textio.specs.Lines.{lines_of}
use Rattle.floorlog.specs.declared.event.Event.{Event}
use Rattle.floorlog.specs.declared.event.Event.TheVariants.{Opens, Receives, Passes, Closes, NoSuch}

infix 40 ◌starts◌
pub data LogEvent : Type 0 where
  opens : ℕ → LogEvent
  receives : List ℕ → LogEvent
  passes : ℕ → LogEvent
  closes : LogEvent
  no_such : LogEvent

abbrev pub event_said : Event → LogEvent
event_said (Opens r) = opens r
event_said (Receives bs) = receives bs.now
event_said (Passes n) = passes n
event_said Closes = closes
event_said NoSuch = no_such

abbrev pub log_line_most : ℕ
log_line_most = 4096

unfoldable pub random_said : List ℕ → LogEvent
random_said s = if length s == 8 && list_all is_hex_digit s then opens (hex_value s) else no_such

unfoldable pub seconds_said : List ℕ → LogEvent
seconds_said s =
    if nat_le 1 (length s) && nat_le (length s) 10 && list_all is_digit s && nat_le (decimal_value s) seconds_most
    then passes (decimal_value s)
    else no_such

abbrev pub ◌starts◌ : List ℕ → Char → Bool
l starts c = nat_le 2 (length l) && l at 1 is " " && l at 0 is c

unfoldable pub form_said : List ℕ → LogEvent
form_said l =
    if length l == 1 && l at 0 is "X" then closes
    else if l starts "O" then random_said (drop 2 l)
    else if l starts "R" then receives (drop 2 l ++ codes "\r")
    else if l starts "T" then seconds_said (drop 2 l)
    else no_such

unfoldable pub event : List ℕ → LogEvent
event l = if nat_le (length l) log_line_most && is_cr_free l then form_said l else no_such

abbrev pub events : List ℕ → List LogEvent
events log = map event (lines_of log)
