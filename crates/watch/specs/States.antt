-- The state of a `Watch`, and what a step of a log does to it.
--   state_of w              the state of the watch w
--   IsWatched s e after t   the step e leaves `after` of the state s; t says whether it ended stretches
--   IsLeft s after          no step was made: nothing has changed but perhaps the places of the record
--   IsMade s e after r      the step e was made, as IsWatched has it, if r is no error; else none was made, as IsLeft
--                           has it
--   misfit_made r           why the line does not belong, if r says so;    misfit_seen r   the same of what the code's
--                           function returns
--   LineLeaves s r l ..     the result r of the line l of a history, for a watch in the state s: the line belongs and
--                           its step was made, or it does not belong, and why
-- Assumes nothing.
use Rattle.std.specs.Prelude.{◌≡◌, ℕ, Bool, ◌&&◌, Result, Ok, Err, Option, Some, None}
use Rattle.textio.specs.Lines.{LogLine}
use Rattle.history.specs.Entries.{LogEntry}
use Rattle.history.specs.declared.recorder.Recorder.{Recorder}
use Rattle.recorded.specs.Chain.{Misfit, why_seen, log_made}
use Rattle.recorded.specs.Following.{line_told}
use Rattle.watch.specs.CallSteps.{entry_step}
use Rattle.recorded.specs.declared.chain.Why.{Why}
use Rattle.watch.specs.declared.Watch.{Watch}
use Rattle.watch.specs.Watching.{Step, Watching, watched_on, is_dark_with, is_long}

abbrev pub state_of : Watch → Watching
state_of w = record { device = w.tested.device; time = w.time; from = w.from; burnt = w.burnt }

pub record IsWatched (s : Watching) (e : Step) (after : Watching) (ended : Bool) : Type 0 where
  pub state : after ≡ watched_on s e
  pub told : ended ≡ (is_dark_with s after.device && is_long after)

pub record IsLeft (s after : Watching) : Type 0 where
  pub settings : after.device.settings ≡ s.device.settings
  pub own : after.device.own ≡ s.device.own
  pub time : after.time ≡ s.time
  pub from : after.from ≡ s.from
  pub burnt : after.burnt ≡ s.burnt

abbrev pub IsMade : Watching → Step → Watching → Result Bool Why → Type 0
IsMade s e after (Ok ended) = IsWatched s e after ended
IsMade s e after (Err why) = IsLeft s after

abbrev pub misfit_made : Result ℕ Misfit → Option Misfit
misfit_made (Ok n) = None
misfit_made (Err why) = Some why

abbrev pub misfit_seen : Result Bool Why → Option Misfit
misfit_seen (Ok ended) = None
misfit_seen (Err why) = Some (why_seen why)

-- the line belongs, and what it says was made
pub record IsLineMade (s : Watching) (r : Recorder) (l : LogLine) (after : Watching) (later : Recorder) (ended : Bool)
    : Type 0 where
  pub entry : LogEntry
  pub said : line_told r s.device l ≡ Ok entry
  pub watched : IsWatched s (entry_step s.device entry) after ended
  pub log : later ≡ log_made r s.device entry l.text

-- the line does not belong
pub record IsLineStray (s : Watching) (r : Recorder) (l : LogLine) (after : Watching) (why : Misfit) : Type 0 where
  pub told : line_told r s.device l ≡ Err why
  pub left : IsLeft s after

abbrev pub LineLeaves : Watching → Recorder → LogLine → Watching → Recorder → Result Bool Why → Type 0
LineLeaves s r l after later (Ok ended) = IsLineMade s r l after later ended
LineLeaves s r l after later (Err why) = IsLineStray s r l after (why_seen why)
