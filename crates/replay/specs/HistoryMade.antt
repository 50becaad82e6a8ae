-- What a line of a history does at a reader's state (RULES, History of a board).
--   LineMade r d l n ..    the line l, which belongs at the reader's state r and d, is made again: its state then is
--                          log and after, and its reply fills the first n bytes of the memory
--   LineStray r d l why after   it does not belong, and no more than the places of the record is changed
--   IsMadeAgain r d l told ..   one or the other, as the result says
-- Assumes nothing.
use Rattle.std.specs.Prelude.{ℕ, ◌≡◌, ◌≤◌, List, take, Result, Ok, Err}
use Rattle.textio.specs.Lines.{LogLine}
use Rattle.record.specs.declared.types.Device.{Device}
use Rattle.device.specs.Calls.{reply_room}
use Rattle.history.specs.Entries.{LogEntry}
use Rattle.history.specs.declared.recorder.Recorder.{Recorder}
use Rattle.recorded.specs.Chain.{why_seen, device_made, reply_made, log_made}
use Rattle.recorded.specs.Following.{line_told}
use Rattle.recorded.specs.declared.chain.Why.{Why}

pub record LineMade (r : Recorder) (d : Device) (l : LogLine) (n : ℕ) (log : Recorder) (after : Device)
    (memory : List ℕ) : Type 0 where
  pub entry : LogEntry
  pub told : line_told r d l ≡ Ok entry
  pub device : after ≡ device_made d entry
  pub log_is : log ≡ log_made r d entry l.text
  pub reply : take n memory ≡ reply_made d entry
  pub inside : n ≤ reply_room

pub record LineStray (r : Recorder) (d : Device) (l : LogLine) (why : Why) (after : Device) : Type 0 where
  pub told : line_told r d l ≡ Err (why_seen why)
  pub settings : after.settings ≡ d.settings
  pub own : after.own ≡ d.own

abbrev pub IsMadeAgain : Recorder → Device → LogLine → Result ℕ Why → Recorder → Device → List ℕ → Type 0
IsMadeAgain r d l (Ok n) log after memory = LineMade r d l n log after memory
IsMadeAgain r d l (Err why) log after memory = LineStray r d l why after
