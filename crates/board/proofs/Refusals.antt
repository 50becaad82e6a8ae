-- What is no command is refused: the writer writes nothing, the reader takes no meaning. And the numbers of the two
-- calls that take a command by its code, each the first row of the table that applies (RULES, The numbers a call
-- gives).
-- Assumes nothing.
use Rattle.std.proofs.Common.{arith, ℕ, ◌≤◌, ◌≡◌, refl, ap, Bool, not, List, [], nat_lt, if◌then◌else◌, Option, Some}
use Rattle.std.proofs.Common.{None}
use Rattle.pjlink.specs.Forms.{reply_parameter}
use Rattle.pjlink.specs.declared.command.Command.{Command}
use Rattle.pjlink.specs.Said.{Said}
use Rattle.pjlink.specs.Reading.{read_parameter}
use Rattle.text.specs.Outcomes.{refused_as, call_number}
use Rattle.controller.specs.Writing.{command_room, unwritten_number}
use Rattle.controller.specs.declared.writing.Unwritten.TheVariants.{OutOfRange}
use Rattle.controller.specs.Reading.{reading_outcome_number, saying, read_reply}
use Rattle.controller.proofs.Cases.{reply_by}
use Rattle.controller.proofs.Refusals.{refusal_writes_nothing, written_number}
use Rattle.codes.specs.Commands.{coded_command}
use Rattle.codes.specs.Readings.{no_reading, flat_reading}
use Rattle.codes.specs.ByCode.{written_by, read_by}
use Rattle.codes.specs.declared.command.Coded.{Coded}
use Rattle.board.specs.Writable.{is_writable_by}

module _ (secured : Bool) (random : ℕ) (password : List ℕ) (room : ℕ) where
  pub write_number : (m : Option Command) → call_number unwritten_number (written_by m secured random password room)
      ≡ (if nat_lt room command_room then 2 else if not (is_writable_by m secured password) then 3 else 0)
  write_number m = grind (arith, written_number)

  pub refused_writes_nothing : (m : Option Command)
      → (call_number unwritten_number (written_by m secured random password room) ≡ 0 → ⊥)
      → (written_by m secured random password room).bytes ≡ []
  refused_writes_nothing m h = grind (arith, refusal_writes_nothing)

  pub no_command_written : (k : Coded) → coded_command k ≡ None → command_room ≤ room
      → written_by (coded_command k) secured random password room ≡ refused_as tt OutOfRange
  no_command_written k e enough = grind arith

pub no_command_read : (k : Coded) (l : List ℕ) → coded_command k ≡ None → read_by (coded_command k) l ≡ no_reading 3
no_command_read k l e = ap (λ (m : Option Command). read_by m l) e

-- the number of a reading is its outcome's
saying-number : (m : Said) → (flat_reading (saying m)).number ≡ reading_outcome_number (saying m).outcome
saying-number m = grind arith

pub read_number : (c : Command) (l : List ℕ) →
    (read_by (Some c) l).number ≡ reading_outcome_number (read_reply c l).outcome
read_number c l =
    reply_by c l (λ r. (flat_reading r).number ≡ reading_outcome_number r.outcome) (λ e. refl) (λ e f. refl)
    (λ f b. refl)
    (λ f b. saying-number (read_parameter c (reply_parameter l)))

pub refused_means_nothing : (m : Option Command) (l : List ℕ) → ((read_by m l).number ≡ 0 → ⊥)
    → read_by m l ≡ no_reading (read_by m l).number
refused_means_nothing m l h = grind arith
