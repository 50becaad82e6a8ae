-- THE LAWS at the face: for every legal device, at every place between lines, whatever the other places hold, and for
-- every code that stands for a command of a class no higher than the device's (RULES, Class 2), what is read of the
-- reply to what was written is what the projector meant, in the kinds and values of the header; and so for the
-- greeting.
--   Told d p m c w r     the writing w of m, which is the command c, and the receiving r of its bytes at place p
-- Assumes nothing.
use Rattle.std.proofs.Common.{arith, ℕ, ◌^◌, ◌≤◌, ◌<◌, ◌≡◌, true, false, List, Option, Some, Ok}
use Rattle.pjlink.specs.Commands.{command_class}
use Rattle.pjlink.specs.declared.command.Command.{Command}
use Rattle.record.specs.Limits.{places_count, phase_awaiting, phase_open}
use Rattle.record.specs.Legal.{is_legal}
use Rattle.record.specs.Places.{connection_at, lowest_closed}
use Rattle.record.specs.declared.types.Device.{Device}
use Rattle.stream.specs.Collecting.{empty_line}
use Rattle.meaning.specs.Meaning.{answer_for}
use Rattle.device.specs.Receiving.{set_up_password}
use Rattle.record.specs.declared.refusal.Refusal.{Refusal}
use Rattle.device.specs.Calls.{reply_room, received_at, opened_by}
use Rattle.text.specs.Outcomes.{CallResult, number_answered}
use Rattle.std.specs.Result.{is_ok}
use Rattle.controller.specs.Writing.{command_room}
use Rattle.controller.specs.declared.writing.Unwritten.{Unwritten}
use Rattle.pjlink.specs.Greetings.{read_greeting}
use Rattle.demands.specs.Greeted.{greeted_on}
use Rattle.demands.proofs.WrittenAndRead.{TakenAndRead, written_reads_back, written_reads_back_secured}
use Rattle.demands.proofs.WrittenAndRead.{opening_greets_back}
use Rattle.codes.specs.Commands.{coded_command}
use Rattle.codes.specs.Readings.{flat_greeting, said_flat}
use Rattle.codes.specs.ByCode.{written_by, read_by}
use Rattle.codes.specs.declared.command.Coded.{Coded}
use Rattle.codes.proofs.CodesBack.{command_writable}

pub record Told (d : Device) (p : ℕ) (m : Option Command) (c : Command) (w : CallResult Unwritten (Unit {0}) (Unit {0}))
    (r : CallResult Refusal ℕ Device) : Type 0 where
  pub written : is_ok w.says ≡ true
  pub taken : TakenAndRead d p c w.bytes r
  pub read : read_by m r.bytes ≡ said_flat (answer_for d.settings d.own (Ok c))

module _ (d : Device) (p : ℕ) (there : p < places_count) (legal : is_legal d ≡ true)
    (between : (connection_at d p).line ≡ empty_line)
    (k : Coded) (c : Command) (named : coded_command k ≡ Some c)
    (within : command_class c ≤ d.settings.class_number)
    (room : ℕ) (enough : reply_room ≤ room) (memory : ℕ) (lent : command_room ≤ memory) where
  -- of the command itself, and so of its code
  abbrev ToldBy : (Option Command → CallResult Unwritten (Unit {0}) (Unit {0})) → Option Command → Type 0
  ToldBy write m = Told d p m c (write m) (received_at d p (write m).bytes room)

  told : (write : Option Command → CallResult Unwritten (Unit {0}) (Unit {0}))
      → (is_ok (write (Some c)).says ≡ true) × TakenAndRead d p c (write (Some c)).bytes
      (received_at d p (write (Some c)).bytes room)
      → ToldBy write (coded_command k)
  told write through = grind arith

  pub face_reads_back : (connection_at d p).phase ≡ phase_open → (random : ℕ) (password : List ℕ)
      → ToldBy (λ m. written_by m false random password memory) (coded_command k)
  face_reads_back phase random password =
      told (λ m. written_by m false random password memory)
      (written_reads_back d p there legal between c (command_writable k c named) within room enough memory lent phase
      random password)

  -- with the device's own random number and password
  pub face_reads_back_secured : (connection_at d p).phase ≡ phase_awaiting
      → ToldBy (λ m. written_by m true (connection_at d p).random (set_up_password d.settings) memory) (coded_command k)
  face_reads_back_secured phase =
      told (λ m. written_by m true (connection_at d p).random (set_up_password d.settings) memory)
      (written_reads_back_secured d p there legal between c (command_writable k c named) within room enough memory lent
      phase)

pub face_greets_back : (d : Device) (r room : ℕ) → is_legal d ≡ true → lowest_closed d.connections < places_count
    → reply_room ≤ room → r < 2 ^ 32
    → let o = opened_by d r room in
    flat_greeting (read_greeting o.bytes) ≡ flat_greeting (greeted_on (connection_at o.leaves (number_answered o)))
face_greets_back d r room legal free enough word = grind (arith, opening_greets_back)
