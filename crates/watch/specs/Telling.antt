-- What is reported of a whole log, step by step (RULES, Floor log).
--   floor_events log      the events of a floor log;    log_steps d log   its steps, from the device d on
--   LitStretch               the lamps whose marks are set in this device burnt from one second up to another, and no
--                            longer
--   told_on s e           the stretch that is reported with the step e, if it ends one that is not empty
--   told_at_end s         the stretch that is reported if the log ends in the state s: the one that is under way
--   lit_stretches s es         the stretches that are reported with the steps es, from the state s on, and at their end
--   after_log s es        the state after the steps es, from the state s on
--   burnt_after s es      the seconds that each lamp burnt when the log ends after the steps es
--   floor_unplayed d log  what of a floor log is not played, from the device d on
--   IsUncounted log       a floor log lets more seconds pass than 64 bits count
-- Assumes nothing.
use Rattle.std.specs.Prelude.{ℕ, ◌^◌, ◌≤◌, Bool, ◌&&◌, if◌then◌else◌, List, [], ◌∷◌, ◌++◌, map, sum_by}
use Rattle.record.specs.declared.types.Device.{Device}
use Rattle.textio.specs.Lines.{lines_of}
use Rattle.floorlog.specs.Unplayed.{none_unplayed, said_line, unplayed_by}
use Rattle.floorlog.specs.declared.unplayed.Unplayed.{Unplayed}
use Rattle.watch.specs.Marking.{WatchedLogEvent, floor_event, floor_steps, done_by, seconds_by, watched_answer}
use Rattle.watch.specs.Watching.{Step, Watching, is_burning_in, is_long, is_dark_with, watched_on, burnt_by}

abbrev pub floor_events : List ℕ → List WatchedLogEvent
floor_events log = map floor_event (lines_of log)

abbrev pub log_steps : Device → List ℕ → List Step
log_steps d log = floor_steps d (floor_events log)

pub record LitStretch : Type 0 where
  pub device : Device
  pub from : ℕ
  pub to : ℕ

abbrev pub lit_stretch_if : Bool → Watching → List LitStretch
lit_stretch_if told s = if told then record { device = s.device; from = s.from; to = s.time } ∷ [] else []

abbrev pub told_on : Watching → Step → List LitStretch
told_on s e = let t = watched_on s e in lit_stretch_if (is_dark_with s t.device && is_long t) t

abbrev pub told_at_end : Watching → List LitStretch
told_at_end s = lit_stretch_if (is_burning_in s.device && is_long s) s

unfoldable pub lit_stretches : Watching → List Step → List LitStretch
lit_stretches s [] = told_at_end s
lit_stretches s (e ∷ es) = told_on s e ++ lit_stretches (watched_on s e) es

unfoldable pub after_log : Watching → List Step → Watching
after_log s [] = s
after_log s (e ∷ es) = after_log (watched_on s e) es

abbrev pub burnt_after : Watching → List Step → List ℕ
burnt_after s es = burnt_by (after_log s es)

abbrev pub IsUncounted : List ℕ → Type 0
IsUncounted log = 2 ^ 64 ≤ sum_by seconds_by (floor_events log)

abbrev pub floor_unplayed : Device → List ℕ → Unplayed
floor_unplayed d log = unplayed_by watched_answer done_by none_unplayed 0 d (map (said_line floor_event) (lines_of log))
