-- A CLASS 1 SET-UP ANSWERS BY CLASS 1 ALONE (RULES, Class 2), over any board: it answers each line as if there were no
-- Class 2, and drops `%2` lines. A line asks for what it asks for where the rows of Class 1 are all rows, and its
-- inputs all inputs, whatever rows of other classes there are.
-- TO BELIEVE IT, believe, and nothing else: the form of a line, and what a line asks for by rows (pjlink/specs: Forms,
-- Bodies, Requests, RowsOfClass); what is meant and done (meaning/specs); which bytes say it (pjlink/specs/Said); the
-- record (record/specs); ours/specs/Board, and here `BetweenLines`, `AnsweredAs`, `digest_for` of SpeaksPjlink.
--   AreOfOthers more       no row of `more` is of a body of Class 1
--   asked_beside more l    what the line l asks for by the rows of Class 1 and, beside these, the rows `more`
--   line_beside more s o l the answer to that: `%1`, the four body bytes as received, `=`, the parameter, CR; or none,
--                          if the line is swallowed
--   answer_beside more d l the same of the device d; a line of more than 135 bytes is swallowed
--   longest_of_class_1     how many bytes a reply of Class 1 has at most (RULES, Inputs)
--   OfClass1 B d           the board is set up for Class 1
--   ClassOneAlone B        the theorem
-- Assumes nothing.
use Rattle.std.specs.Prelude.{ℕ, ◌≤◌, ◌≡◌, true, not, List, ◌++◌, length, if◌then◌else◌, nat_le, codes}
use Rattle.std.specs.List.{list_all}
use Rattle.text.specs.Words.{◌is◌}
use Rattle.words.specs.Bytes.{◌at◌, is_cr_free, command_most}
use Rattle.pjlink.specs.declared.body.BodyRow.{BodyRow}
use Rattle.pjlink.specs.Bodies.{body_rows}
use Rattle.pjlink.specs.Forms.{is_command_form, head_body, command_parameter}
use Rattle.pjlink.specs.Requests.{Request}
use Rattle.pjlink.specs.RowsOfClass.{is_row_of_class, rows_of_class, request_by}
use Rattle.pjlink.specs.Said.{said_bytes}
use Rattle.record.specs.Limits.{phase_awaiting, phase_open}
use Rattle.record.specs.declared.types.Settings.{Settings}
use Rattle.record.specs.declared.types.Own.{Own}
use Rattle.record.specs.declared.types.Device.{Device}
use Rattle.meaning.specs.Meaning.{answer_for, after_request}
use Rattle.device.specs.Answering.{Answered, line_swallowed}
use Rattle.device.specs.Calls.{reply_room}
use Rattle.ours.specs.Board.{Board}
use Rattle.demands.specs.SpeaksPjlink.{BetweenLines, AnsweredAs, digest_for}

abbrev pub AreOfOthers : List BodyRow → Type 0
AreOfOthers more = list_all (λ r. not (is_row_of_class 1 r)) more ≡ true

abbrev pub asked_beside : List BodyRow → List ℕ → Request
asked_beside more l = request_by (rows_of_class 1 body_rows ++ more) 1 (head_body l) (command_parameter l)

abbrev pub line_beside : List BodyRow → Settings → Own → List ℕ → Answered
line_beside more s o l =
    if is_command_form 1 l
    then record {
      own = after_request s o (asked_beside more l);
      reply =
          codes "%1" ++ head_body l ++ codes "=" ++ said_bytes (answer_for s o (asked_beside more l)) ++ codes "\r";
    }
    else line_swallowed o

abbrev pub answer_beside : List BodyRow → Device → List ℕ → Answered
answer_beside more d l =
    if nat_le (length l) command_most then line_beside more d.settings d.own l else line_swallowed d.own

abbrev pub longest_of_class_1 : ℕ
longest_of_class_1 = 103

abbrev pub OfClass1 : {R : Type 0} → Board R → R → Type 0
OfClass1 B d = (B.shows d).settings.class_number ≡ 1

pub record ClassOneAlone {R : Type 0} (B : Board R) : Type 0 where
  -- any line, on an open connection or behind the matching digest
  pub answers : (more : List BodyRow) (d : R) (p : ℕ) (l m : List ℕ) → AreOfOthers more → OfClass1 B d
      → BetweenLines phase_open (B.shows d) p → is_cr_free l ≡ true → reply_room ≤ length m
      → let bs = l ++ codes "\r" in AnsweredAs B d p bs (answer_beside more (B.shows d) l) (B.receive d p bs m)
  pub answers_led : (more : List BodyRow) (d : R) (p : ℕ) (l m : List ℕ) → AreOfOthers more → OfClass1 B d
      → BetweenLines phase_awaiting (B.shows d) p → is_cr_free l ≡ true → length l ≤ command_most → reply_room
      ≤ length m
      → let bs = digest_for (B.shows d) p ++ l ++ codes "\r" in
      AnsweredAs B d p bs (answer_beside more (B.shows d) l) (B.receive d p bs m)
  -- it drops `%2` lines, whatever follows
  pub drops_class_2 : (d : R) (p : ℕ) (l m : List ℕ) → OfClass1 B d → BetweenLines phase_open (B.shows d) p
      → is_cr_free l ≡ true → (l at 1 is "2") ≡ true → reply_room ≤ length m
      → let bs = l ++ codes "\r" in AnsweredAs B d p bs (line_swallowed (B.shows d).own) (B.receive d p bs m)
  -- RULES, Inputs: the longest reply has 103 bytes
  pub reply_short : (d : R) (p : ℕ) (bs m : List ℕ) → OfClass1 B d → (B.receive d p bs m).length ≤ longest_of_class_1
