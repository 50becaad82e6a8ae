-- What `replay` prints for a log of either kind (RULES, Floor log and History of a board).
--   any_log_text d sum log     all of it, for a log that begins with the record d, of which the form has that sum
--   log_stray d sum log    the first line of a history that does not belong; a log of the first kind has none
--   log_unplayed d log     what of a log of the first kind is not played; of a history it is none
--   lines_text d sum ls    what is printed for lines, before the end of the output
--   IsPrintedSoFar d sum log left ..   the sink got what is printed for each line that has ended in what was read of
--                          the log, where this is left, and nothing after them
-- Assumes nothing.
use Rattle.std.specs.Prelude.{ℕ, ◌≡◌, ◌≢◌, List, ◌++◌, All, map, if◌then◌else◌, Option, None}
use Rattle.std.specs.Io.KnownBytes.{Appends}
use Rattle.textio.specs.Lines.{LogLine, texts_of}
use Rattle.record.specs.declared.types.Device.{Device}
use Rattle.floorlog.specs.Kept.{kept_lines}
use Rattle.floorlog.specs.Kinds.{is_history}
use Rattle.floorlog.specs.Events.{event}
use Rattle.floorlog.specs.Playing.{lines_printed, replay_text}
use Rattle.floorlog.specs.Unplayed.{none_unplayed, unplayed_of}
use Rattle.floorlog.specs.declared.unplayed.Unplayed.{Unplayed}
use Rattle.recorded.specs.Following.{chain_begun, belonging, FirstStray}
use Rattle.replay.specs.HistoryText.{entries_text, recorded_text, recorded_stray}

abbrev pub any_log_text : Device → ℕ → List ℕ → List ℕ
any_log_text d sum log = if is_history (kept_lines log) then recorded_text d sum log else replay_text d log

abbrev pub log_stray : Device → ℕ → List ℕ → Option FirstStray
log_stray d sum log = if is_history (kept_lines log) then recorded_stray d sum log else None

abbrev pub log_unplayed : Device → List ℕ → Unplayed
log_unplayed d log = if is_history (kept_lines log) then none_unplayed else unplayed_of d log

abbrev pub lines_text : Device → ℕ → List LogLine → List ℕ
lines_text d sum ls =
    if is_history ls then entries_text 0 d (belonging (chain_begun sum) d ls)
    else lines_printed 0 d (map event (texts_of ls))

pub record IsPrintedSoFar (d : Device) (sum : ℕ) (log left : List ℕ) (old new : Option (List ℕ)) : Type 0 where
  pub told : List LogLine
  pub part : List ℕ
  pub one_line : All (λ b. b ≢ 10) part
  pub lines : kept_lines log ≡ told ++ kept_lines (part ++ left)
  pub printed : Appends old new (lines_text d sum told)
