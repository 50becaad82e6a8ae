-- A whole log replayed (RULES, Floor log).
--   IsReplayed d log ..   the sink got all that is printed for the log from the device d, and the device is as after it
--   IsPlayedSoFar d log left ..   the sink got what is printed for each line that has ended in what was read of the
--                                 log, of which `left` is left, and nothing after it
-- Assumes nothing.
use Rattle.std.specs.Prelude.{ℕ, List, ◌≡◌, ◌≢◌, ◌++◌, All, map}
use Rattle.std.specs.declared.option.Option.{Option}
use Rattle.std.specs.Io.KnownBytes.{Appends}
use Rattle.record.specs.declared.types.Device.{Device}
use Rattle.textio.specs.Lines.{LogLine, texts_of}
use Rattle.floorlog.specs.Kept.{kept_lines}
use Rattle.floorlog.specs.Events.{event, events}
use Rattle.floorlog.specs.Playing.{state_after, lines_printed, replay_text}

pub record IsReplayed (d : Device) (log : List ℕ) (old new : Option (List ℕ)) (after : Device) : Type 0 where
  pub printed : Appends old new (replay_text d log)
  pub device : after ≡ state_after d (events log)

pub record IsPlayedSoFar (d : Device) (log left : List ℕ) (old new : Option (List ℕ)) : Type 0 where
  pub told : List LogLine
  pub part : List ℕ
  pub one_line : All (λ b. b ≢ 10) part
  pub lines : kept_lines log ≡ told ++ kept_lines (part ++ left)
  pub printed : Appends old new (lines_printed 0 d (map event (texts_of told)))
