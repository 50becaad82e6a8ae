-- A line that is received on an open connection, without its CR (RULES, Connection and Commands).
--   Answered            what a line leaves: the projector's own part, and the reply's bytes (none, or a whole reply)
--   line_asks l         what the line asks for
--   line_answer s o l   a line of the form is answered: `%`, the class and the four body bytes as received, `=`, the
--                       parameter, CR; any other is swallowed, with no reply, and so is one of a class higher than the
--                       set-up's (RULES, Class 2)
-- Assumes nothing.
use Rattle.std.specs.Prelude.{ℕ, List, [], if◌then◌else◌}
use Rattle.words.specs.Bytes.{◌at◌}
use Rattle.pjlink.specs.Forms.{is_command_form, line_class, head_body, command_parameter, reply_line}
use Rattle.pjlink.specs.Requests.{request_of, Request}
use Rattle.pjlink.specs.Said.{said_bytes}
use Rattle.record.specs.declared.types.Settings.{Settings}
use Rattle.record.specs.declared.types.Own.{Own}
use Rattle.meaning.specs.Meaning.{answer_for, after_request}

pub record Answered : Type 0 where
  pub own : Own
  pub reply : List ℕ

abbrev pub line_asks : List ℕ → Request
line_asks l = request_of (line_class l) (head_body l) (command_parameter l)

abbrev pub line_swallowed : Own → Answered
line_swallowed o = record { own = o; reply = [] }

abbrev pub command_answer : Settings → Own → List ℕ → Answered
command_answer s o l = record {
  own = after_request s o (line_asks l);
  reply = reply_line (l at 1) (head_body l) (said_bytes (answer_for s o (line_asks l)));
}

unfoldable pub line_answer : Settings → Own → List ℕ → Answered
line_answer s o l = if is_command_form s.class_number l then command_answer s o l else line_swallowed o
