-- Receiving on the parts: settings, the projector's own part, and one connection (RULES, Connection).
--   begun_in phase r     a connection at the start of a phase: age 0, that random number, nothing collected
--   phase_start c phase  the connection at the start of another phase, its random number kept
--   is_led_by r p l      the bytes l of a line start with the digest of r and the password p, and are at most 167
--   is_match s c l       the line is not overlong and starts with the digest of the random number and the password
--   line_ended s o c l   what the CR of the line l does
--   taken_in s o c bs    what one call takes of the bytes bs
-- The results name the own part and the connection, never the whole record: what has these parts can use them.
-- Assumes nothing.
use Rattle.std.specs.Prelude.{ℕ, ◌+◌, Bool, not, ◌&&◌, List, [], length, take, drop, if◌then◌else◌, nat_le, ◌==◌}
use Rattle.text.specs.Flags.{is_raised}
use Rattle.text.specs.Scans.{is_same_by, itself}
use Rattle.digest.specs.Hex.{leading_digest}
use Rattle.pjlink.specs.Forms.{erra_line}
use Rattle.record.specs.Limits.{line_room, phase_awaiting, phase_open, phase_failed}
use Rattle.record.specs.Updates.{with_line}
use Rattle.record.specs.Legal.{held_most}
use Rattle.record.specs.declared.types.Settings.{Settings}
use Rattle.record.specs.declared.types.Own.{Own}
use Rattle.record.specs.declared.types.CollectedLine.{CollectedLine}
use Rattle.record.specs.declared.types.Connection.{Connection}
use Rattle.stream.specs.Collecting.{Gathered}
use Rattle.stream.specs.Collecting.{empty_line, line_text, gathered_from}
use Rattle.device.specs.Answering.{Answered, line_answer, line_swallowed}

pub record Ended : Type 0 where
  pub own : Own
  pub connection : Connection
  pub reply : List ℕ

pub record Taken : Type 0 where
  pub ended : Ended
  pub taken : ℕ

abbrev pub begun_in : ℕ → ℕ → Connection
begun_in phase random = record { phase = phase; age = 0; random = random; line = empty_line }

abbrev pub phase_start : Connection → ℕ → Connection
phase_start c phase = begun_in phase c.random

abbrev pub digest_long : ℕ
digest_long = 32

abbrev pub set_up_password : Settings → List ℕ
set_up_password s = take s.password.len s.password.bytes

abbrev pub is_led_by : ℕ → List ℕ → List ℕ → Bool
is_led_by random password l =
    nat_le (length l) line_room && is_same_by itself (take digest_long l) (leading_digest random password)

unfoldable pub is_match : Settings → Connection → CollectedLine → Bool
is_match s c l =
    not (is_raised l.overlong) && nat_le digest_long l.held
    && is_same_by itself (take digest_long l.bytes) (leading_digest c.random (set_up_password s))

abbrev pub no_reply : Own → Connection → Ended
no_reply o c = record { own = o; connection = c; reply = [] }

abbrev pub served_line : Connection → Answered → Ended
served_line c a = record { own = a.own; connection = phase_start c phase_open; reply = a.reply }

abbrev pub refused_digest : Own → Connection → Ended
refused_digest o c = record { own = o; connection = phase_start c phase_failed; reply = erra_line }

-- open: an overlong line is swallowed; awaiting: the rest of a line with the matching digest is a line, any other line
-- is refused; failed: ignored
unfoldable pub line_ended : Settings → Own → Connection → CollectedLine → Ended
line_ended s o c l =
    if c.phase == phase_open then
    served_line c (if is_raised l.overlong then line_swallowed o else line_answer s o (line_text l))
    else if c.phase == phase_awaiting then
    (if is_match s c l then served_line c (line_answer s o (drop digest_long (line_text l))) else refused_digest o c)
    else no_reply o c

-- a failed connection takes bytes and keeps none
unfoldable pub keeping_line : Connection → CollectedLine → Connection
keeping_line c l = if c.phase == phase_failed then c else with_line c l

abbrev pub taken_of : Settings → Own → Connection → Gathered → Taken
taken_of s o c g =
    if g.ended then record { ended = line_ended s o c g.line; taken = g.before + 1 }
    else record { ended = no_reply o (keeping_line c g.line); taken = g.before }

unfoldable pub taken_in : Settings → Own → Connection → List ℕ → Taken
taken_in s o c bs = taken_of s o c (gathered_from (held_most c.phase) c.line bs)
