-- DEMAND 1. "Whatever bytes arrive, in whatever cuts, every call ends and stays inside its memory. A call that can't be
-- served gives the one number that the table lists for it, returns the device record it was given (a refused set-up
-- gives the blank record), and writes no byte of the reply memory."
-- That a call ends is no field below: each call of a board is a function, and a Rattle function meets its contract only
-- if it ends.
-- TO BELIEVE IT, believe, and nothing else: the rows below, against the table of RULES, The numbers a call gives, those
-- of opening, closing and receiving as device/specs/Calls has them, with `is_no_lamp` and `is_none_left` of
-- record/specs/HostCalls (RULES, Lamps), with `reply_room` and `is_no_place`, and `is_closed`, `connection_at`,
-- `lowest_closed` of record/specs/Places (RULES, Places), those of storing and loading as stored/specs: Form, Loading
-- have them, against the order of RULES, Stored form, with numbers in bytes as numbers/specs/HighestFirst has them;
-- what is legal and what is in range (record/specs: Limits, Rules, Legal, SetUp, and `blank` of Record; words/specs:
-- Bytes, Sources, Inputs, Texts, Utf8); the length 168 (`command_room` of controller/specs/Writing); for the
-- readers, the forms of lines (pjlink/specs: Forms, Commands, Bodies) and which parameter says what (pjlink/specs:
-- Said, CanSay, Writings, with the values of words/specs: Numerals, Powers, Muting, ErrorDigits, Lamps, Classes,
-- Refusing, Joined; `greets`, `random_in` of pjlink/specs/Greetings); ours/specs/Board; here Calls.
--   rows_of d c         the rows that the call c can meet, in the table's order; set-up, writer and readers have rows
--                       of their own
--   Inside m r          a call that is given the memory m stays in it, and changes no byte past its reply
--   Untouched m r       the call took no byte, replied nothing and wrote no byte of m
-- Assumes nothing.
use Rattle.std.specs.Prelude.{ℕ, ◌≤◌, ◌≡◌, Bool, true, false, not, ◌||◌, List, [], ◌∷◌, set, length, drop, nat_lt, ◌==◌}
use Rattle.text.specs.Flags.{flag_of}
use Rattle.text.specs.Rows.{RefusalRow, ◌when◌, first_of, numbers_of}
use Rattle.text.specs.Scans.{is_same_by, itself}
use Rattle.pjlink.specs.Forms.{erra_line, greeting_open, is_reply_form, head_body, reply_parameter}
use Rattle.pjlink.specs.Commands.{body_of, command_class}
use Rattle.pjlink.specs.declared.command.Command.{Command}
use Rattle.pjlink.specs.Bodies.{is_body}
use Rattle.pjlink.specs.Said.{nothing}
use Rattle.pjlink.specs.Writings.{IsAllowed}
use Rattle.record.specs.Wanted.{Wanted}
use Rattle.record.specs.Rules.{is_long_enough, is_error_list}
use Rattle.record.specs.Legal.{is_legal}
use Rattle.record.specs.Record.{blank}
use Rattle.record.specs.Limits.{off}
use Rattle.record.specs.Refusals.{refusal_number}
use Rattle.record.specs.HostCalls.{is_no_lamp, is_none_left}
use Rattle.record.specs.SetUp.{is_in_range}
use Rattle.record.specs.declared.types.Device.{Device}
use Rattle.stored.specs.Form.{storing_rows}
use Rattle.stored.specs.Loading.{load_rows}
use Rattle.stored.specs.Told.{load_error_number}
use Rattle.device.specs.Calls.{receiving_rows, opening_rows, closing_rows}
use Rattle.controller.specs.Writing.{command_room, is_writable}
use Rattle.controller.specs.Reading.{reading_outcome_number}
use Rattle.pjlink.specs.Greetings.{greets, random_in, greeting_number}
use Rattle.ours.specs.Board.{Board, Lent, Wrote}
use Rattle.demands.specs.Calls.{Call, opens, closes, receives, passes, faults, reports, enables, after, number_of}

-- ---- the table of numbers

abbrev is_illegal : Device → Bool
is_illegal d = not (is_legal d)

-- of a lamp's mark: no such lamp, or the last mark cleared; then any power but off (RULES, Lamps)
abbrev pub mark_rows : Device → ℕ → Bool → List (RefusalRow ℕ)
mark_rows d k m =
    (1 when is_illegal d) ∷ (3 when (is_no_lamp d k || is_none_left (set d.own.enabled k (flag_of m))))
    ∷ (7 when not (d.own.power == off)) ∷ []

abbrev pub rows_of : Device → Call → List (RefusalRow ℕ)
rows_of d (opens random m) = numbers_of refusal_number (opening_rows d (length m))
rows_of d (closes p) = numbers_of refusal_number (closing_rows d p)
rows_of d (receives p bs m) = numbers_of refusal_number (receiving_rows d p (length m))
rows_of d (passes n) = (1 when is_illegal d) ∷ []
rows_of d (faults fault) = (1 when is_illegal d) ∷ []
rows_of d (reports errors) = (1 when is_illegal d) ∷ (3 when not (is_error_list errors)) ∷ []
rows_of d (enables lamp mark) = mark_rows d lamp mark

-- RULES, Passwords: 8 after every 3
abbrev pub set_up_rows : Wanted → List (RefusalRow ℕ)
set_up_rows w = (3 when not (is_in_range w)) ∷ (8 when not (is_long_enough (length w.password))) ∷ []

abbrev pub writer_rows : Command → Bool → List ℕ → List ℕ → List (RefusalRow ℕ)
writer_rows c secured password m =
    (2 when nat_lt (length m) command_room) ∷ (3 when not (is_writable c secured password)) ∷ []

abbrev is_erra : List ℕ → Bool
is_erra l = is_same_by itself l erra_line

-- the ERRA line is recognised before the form is tested, which is that of the command's class (RULES, Class 2); a
-- parameter is allowed if it says something (`IsAllowed`)
abbrev pub reader_rows : Command → List ℕ → Bool → List (RefusalRow ℕ)
reader_rows c l allowed =
    (0 when is_erra l) ∷ (10 when not (is_reply_form (command_class c) l))
    ∷ (11 when not (is_body (command_class c) (head_body l) (body_of c))) ∷ (12 when not allowed) ∷ []

-- the two greetings and the ERRA line
abbrev pub greeting_rows : List ℕ → List (RefusalRow ℕ)
greeting_rows l =
    (0 when is_same_by itself l greeting_open) ∷ (0 when is_erra l) ∷ (0 when greets l (random_in l)) ∷ (10 when true)
    ∷ []

-- ---- the memory

pub record Inside {R : Type 0} (m : List ℕ) (r : Lent R) : Type 0 where
  pub room : length r.memory ≡ length m
  pub fits : r.length ≤ length m
  pub later : drop r.length r.memory ≡ drop r.length m

pub record WroteInside (m : List ℕ) (w : Wrote) : Type 0 where
  pub room : length w.memory ≡ length m
  pub fits : w.length ≤ length m
  pub later : drop w.length w.memory ≡ drop w.length m

pub record Untouched {R : Type 0} (m : List ℕ) (r : Lent R) : Type 0 where
  pub taken : r.taken ≡ 0
  pub length : r.length ≡ 0
  pub memory : r.memory ≡ m

module _ {R : Type 0} (B : Board R) where
  abbrev pub StaysInside : R → Call → Type 0
  StaysInside d (opens random m) = Inside m (B.opening d random m)
  StaysInside d (receives p bs m) =
      Inside m (B.receive d p bs m) × ((B.receive d p bs m).taken ≤ length bs)
  StaysInside d c = Unit {0}

  abbrev pub WritesNothing : R → Call → Type 0
  WritesNothing d (opens random m) = Untouched m (B.opening d random m)
  WritesNothing d (receives p bs m) = Untouched m (B.receive d p bs m)
  WritesNothing d c = Unit {0}

-- ---- the demand

pub record KeepsRunning {R : Type 0} (B : Board R) : Type 0 where
  -- "Whatever bytes arrive, in whatever cuts, every call .. stays inside its memory": of any record, legal or not
  pub stays_inside : (d : R) (c : Call) → StaysInside B d c
  pub writer_stays_inside : (c : Command) (secured : Bool) (random : ℕ) (password m : List ℕ)
      → WroteInside m (B.write c secured random password m)
  pub store_stays_inside : (d : R) (m : List ℕ) → WroteInside m (B.store d m)
  -- "A call that can't be served gives the one number that the table lists for it"
  pub number_is_first : (d : R) (c : Call) → number_of B d c ≡ first_of (rows_of (B.shows d) c)
  pub set_up_number : (w : Wanted) → (B.set_up w).number ≡ first_of (set_up_rows w)
  pub writer_number : (c : Command) (secured : Bool) (random : ℕ) (password m : List ℕ)
      → (B.write c secured random password m).number ≡ first_of (writer_rows c secured password m)
  pub reader_number : (c : Command) (l : List ℕ) (allowed : Bool) → IsAllowed c (reply_parameter l) allowed
      → reading_outcome_number (B.read_reply c l).outcome ≡ first_of (reader_rows c l allowed)
  pub greeting_reader_number : (l : List ℕ) → greeting_number (B.read_greeting l) ≡ first_of (greeting_rows l)
  pub store_number : (d : R) (m : List ℕ) → (B.store d m).number
      ≡ first_of (numbers_of refusal_number (storing_rows (B.shows d) (length m)))
  pub load_number : (s : List ℕ) → (B.load s).number ≡ first_of (numbers_of load_error_number (load_rows s))
  -- "returns the device record it was given .., and writes no byte of the reply memory"
  pub refused_keeps : (d : R) (c : Call) → (number_of B d c ≡ 0 → ⊥)
      → (after B d c ≡ d) × WritesNothing B d c
  -- RULES, Places: the place that a refused opening gives is 0
  pub refused_opening_place : (d : R) (random : ℕ) (m : List ℕ) → ((B.opening d random m).number ≡ 0 → ⊥)
      → B.place_opened d random m ≡ 0
  pub refused_writer_writes_nothing : (c : Command) (secured : Bool) (random : ℕ) (password m : List ℕ)
      → let w = B.write c secured random password m in
      (w.number ≡ 0 → ⊥) → (w.length ≡ 0) × (w.memory ≡ m)
  pub refused_store_writes_nothing : (d : R) (m : List ℕ) → ((B.store d m).number ≡ 0 → ⊥)
      → ((B.store d m).length ≡ 0) × ((B.store d m).memory ≡ m)
  pub refused_reader_means_nothing : (c : Command) (l : List ℕ) →
      (reading_outcome_number (B.read_reply c l).outcome ≡ 0 → ⊥)
      → (B.read_reply c l).said ≡ nothing
  -- "(a refused set-up gives the blank record)", which is not legal; that of an accepted one is legal, and stays so in
  -- any call
  pub refused_set_up_blank : (w : Wanted) → ((B.set_up w).number ≡ 0 → ⊥) → B.shows (B.set_up w).device ≡ blank
  pub blank_illegal : is_legal blank ≡ false
  pub set_up_legal : (w : Wanted) → (B.set_up w).number ≡ 0 → is_legal (B.shows (B.set_up w).device) ≡ true
  -- RULES, Stored form: a refused load gives the blank record too, and that of an accepted one is legal
  pub refused_load_blank : (s : List ℕ) → ((B.load s).number ≡ 0 → ⊥) → B.shows (B.load s).device ≡ blank
  pub load_legal : (s : List ℕ) → (B.load s).number ≡ 0 → is_legal (B.shows (B.load s).device) ≡ true
  pub stays_legal : (d : R) (c : Call) → is_legal (B.shows d) ≡ true
      → is_legal (B.shows (after B d c)) ≡ true
