-- What of a floor log is not played: lines that are not understood, and calls that are refused (RULES, The programs).
--   begins_as_history l   the line l begins as a header, an opening or a stated line of a history
--   why_misread l         why the line l, which has no form, has none: the first reason that is true of it
--   misread_words w       what is said of the reason w, after the number of the line
--   line_noted u n w c         u after line n, whose call gave the number c; a line of no form has no c, and the reason
--                              w
--   SaidLine, said_line   a line by what it says, and why it would say nothing
--   unplayed_by .. u n d ls   u after these lines, the first of which is line n + 1, from the device d on; the call of
--                             each gives `answer`, and leaves `next`
--   answer d e            the number of the event's call; None for a line of no form;    left_by_event d e   the device
--                         that it leaves
--   unplayed_of d log     what of a log is not played, from the device d on
--   unplayed_text u       the words for it: whether there are lines of a history, then the lines that were not
--                         understood, then the calls that were refused, if any, with the first of each
-- Assumes nothing.
use Rattle.std.specs.Prelude.{ℕ, ◌+◌, ◌-◌, Bool, true, false, not, ◌&&◌, ◌||◌, List, [], ◌∷◌, ◌++◌, length, map, codes}
use Rattle.std.specs.Prelude.{if◌then◌else◌, nat_le, ◌==◌, Some, None}
use Rattle.std.specs.declared.option.Option.{Option}
use Rattle.text.specs.Words.{◌is◌, ◌from◌to◌}
use Rattle.words.specs.Bytes.{◌at◌, is_cr_free}
use Rattle.numbers.specs.Decimal.{digits, long_digits}
use Rattle.reasons.specs.Reasons.{number_text}
use Rattle.record.specs.declared.types.Device.{Device}
use Rattle.textio.specs.Lines.{lines_of}
use Rattle.floorlog.specs.Events.{LogEvent, event, log_line_most, ◌starts◌}
use Rattle.floorlog.specs.Doing.{event_result, event_answer}
use Rattle.floorlog.specs.Kinds.{begins_history}
use Rattle.floorlog.specs.declared.unplayed.LineError.{LineError}
use Rattle.floorlog.specs.declared.unplayed.LineError.TheVariants as why
use Rattle.floorlog.specs.declared.unplayed.MisreadLine.{MisreadLine}
use Rattle.floorlog.specs.declared.unplayed.RefusedCall.{RefusedCall}
use Rattle.floorlog.specs.declared.unplayed.Unplayed.{Unplayed}

abbrev pub begins_opening : List ℕ → Bool
begins_opening l = l at 0 is "O" && l at 1 is " " && l at 2 from "0" to "3" && l at 3 is " "

abbrev pub begins_stated : List ℕ → Bool
begins_stated l = l at 0 is "S" && l at 1 is " " && l at 2 from "0" to "9"

abbrev pub begins_as_history : List ℕ → Bool
begins_as_history l = begins_history l || begins_opening l || begins_stated l

-- UTF-8's byte order mark, which some editors put before a text
abbrev pub has_byte_order_mark : List ℕ → Bool
has_byte_order_mark l = l at 0 == 239 && l at 1 == 187 && l at 2 == 191

abbrev pub ends_with_cr : List ℕ → Bool
ends_with_cr l = nat_le 1 (length l) && l at (length l - 1) is "\r"

unfoldable pub why_of_letter : List ℕ → LineError
why_of_letter l =
    if length l == 0 then why.Empty
    else if l at 0 == 0 then why.Nul
    else if l starts "O" then why.RandomWanted
    else if l starts "T" then why.SecondsWanted
    else if l starts "M" then why.Mark
    else if l at 0 is "X" then why.NotAlone
    else if l at 0 is "O" || l at 0 is "R" || l at 0 is "T" || l at 0 is "M" then why.SpaceWanted
    else if l at 0 from "0" to "9" || l at 0 is "[" then why.Stamped
    else why.NoLetter

unfoldable pub why_misread : List ℕ → LineError
why_misread l =
    if begins_as_history l then why.OfHistory
    else if not (nat_le (length l) log_line_most) then why.TooLong
    else if has_byte_order_mark l then why.ByteOrderMark
    else if ends_with_cr l then why.EndsWithCr
    else if not (is_cr_free l) then why.HasCr
    else why_of_letter l

abbrev pub misread_words : LineError → List ℕ
misread_words why.OfHistory = codes " is of a history, and no header stands before it"
misread_words why.TooLong = codes ": longer than 4,096 bytes"
misread_words why.ByteOrderMark = codes ": a byte order mark before it"
misread_words why.EndsWithCr = codes " ends with CR: is this a file with CRLF line ends?"
misread_words why.HasCr = codes ": a CR in it"
misread_words why.Empty = codes " is empty"
misread_words why.Nul = codes " begins with a NUL: is this a text?"
misread_words why.RandomWanted = codes ": eight lowercase hex digits wanted"
misread_words why.SecondsWanted = codes ": one to ten digits wanted, at most 4,294,967,295"
misread_words why.Mark = codes ": M, a lamp 1 to 9, and 0 or 1, is for burnt alone"
misread_words why.NotAlone = codes ": X stands alone"
misread_words why.SpaceWanted = codes ": a space wanted behind the letter"
misread_words why.Stamped = codes " begins with a digit: is it a time stamp?"
misread_words why.NoLetter = codes " begins with none of O, R, T and X"

abbrev pub none_unplayed : Unplayed
none_unplayed = record { misread = 0; first_misread = None; refused = 0; first_refused = None; has_history = false }

abbrev pub first_noted : {A : Type 0} → Option A → A → Option A
first_noted (Some a) b = Some a
first_noted None b = Some b

abbrev pub is_of_history : LineError → Bool
is_of_history why.OfHistory = true
is_of_history w = false

abbrev pub line_noted : Unplayed → ℕ → LineError → Option ℕ → Unplayed
line_noted u n w None = record u {
  misread = u.misread + 1;
  first_misread = first_noted u.first_misread (record { line = n; why = w });
  has_history = u.has_history || is_of_history w;
}
line_noted u n w (Some c) =
    if c == 0 then u
    else record u {
      refused = u.refused + 1;
      first_refused = first_noted u.first_refused (record { line = n; number = c });
    }

pub record SaidLine (E : Type 0) : Type 0 where
  pub event : E
  pub why : LineError

abbrev pub said_line : {E : Type 0} → (List ℕ → E) → List ℕ → SaidLine E
said_line said l = record { event = said l; why = why_misread l }

unfoldable pub unplayed_by : {E : Type 0} → (Device → E → Option ℕ) → (Device → E → Device) → Unplayed → ℕ → Device
    → List (SaidLine E) → Unplayed
unplayed_by answers next u n d [] = u
unplayed_by answers next u n d (l ∷ ls) =
    unplayed_by answers next (line_noted u (n + 1) l.why (answers d l.event)) (n + 1) (next d l.event) ls

abbrev pub answer : Device → LogEvent → Option ℕ
answer d e = event_answer e (event_result d e)

abbrev pub left_by_event : Device → LogEvent → Device
left_by_event d e = (event_result d e).leaves

abbrev pub unplayed_of : Device → List ℕ → Unplayed
unplayed_of d log = unplayed_by answer left_by_event none_unplayed 0 d (map (said_line event) (lines_of log))

abbrev pub misread_text : ℕ → Option MisreadLine → List ℕ
misread_text n None = []
misread_text n (Some m) =
    codes "lines not understood: " ++ (long_digits n ++ (codes "; line " ++ (long_digits m.line
    ++ (misread_words m.why ++ codes "\n"))))

abbrev pub refused_words : ℕ → List ℕ
refused_words c = codes ": " ++ (number_text c ++ (codes " (" ++ (digits c ++ codes ")\n")))

abbrev pub refused_calls_text : ℕ → Option RefusedCall → List ℕ
refused_calls_text n None = []
refused_calls_text n (Some c) =
    codes "calls refused: " ++ (long_digits n ++ (codes "; line " ++ (long_digits c.line ++ refused_words c.number)))

abbrev pub headless_text : Bool → List ℕ
headless_text b =
    if b then codes "the log has lines of a history, and no header: it is read as a log of the other kind\n" else []

unfoldable pub unplayed_text : Unplayed → List ℕ
unplayed_text u =
    headless_text u.has_history
    ++ (misread_text u.misread u.first_misread ++ refused_calls_text u.refused u.first_refused)
