-- What no line can say is refused for that alone, whatever it is, and the recorder stays.
-- Assumes nothing.
use Rattle.std.proofs.Common.{ℕ, ◌≡◌, Bool, true, false, refl, nat_lt, if◌then◌else◌}
use Rattle.text.specs.Outcomes.{refused_as}
use Rattle.record.specs.declared.refusal.Refusal.TheVariants.{NoRoom, OutOfRange}
use Rattle.history.specs.Entries.{LogEntry, is_sayable_entry}
use Rattle.history.specs.Recording.{log_line_room, recorded_by}
use Rattle.history.specs.declared.recorder.Recorder.{Recorder}

module _ (r : Recorder) (e : LogEntry) (room : ℕ) (no : is_sayable_entry e ≡ false) where
  pub unsayable_written : recorded_by r e room
      ≡ refused_as r (if nat_lt room log_line_room then NoRoom else OutOfRange)
  unfolding recorded_by
  unsayable_written = by (nat_lt room log_line_room) refl
    where
      by : (a : Bool) → nat_lt room log_line_room ≡ a
          → recorded_by r e room ≡ refused_as r (if nat_lt room log_line_room then NoRoom else OutOfRange)
      by true p = simp p
      by false p = simp (p, no)
