-- A host that records (RULES, History of a board): it makes calls on its board, records each that is served, after it
-- is made, and at will begins files and states what the record shows, each line into memory of its own.
--   HostStep              what a host does: it begins a file, with a start time or none; makes a call; states
--   step_written r d s n    what the recorder gives of the step s, made on d, in n bytes of memory: it is not called
--                         for a call that is refused
--   device_by d s         the record then
--   host_log r d ss       all that is written of the steps ss
--   recorder_left r d ss  the recorder then
--   step_calls ss         the calls among them
--   IsKept r d s n        if it is a call that is served, it is recorded;   AreKept r d ss   of each
--   HaveRoom ss           each of them has the memory that any line fits in
--   IsTypedStep s         its numbers are those that the code's types have;   AreTypedSteps ss   of each
--   host_left r d ss      where the steps leave the host itself: the recorder, the record, and its served calls with
--                         their
--                         replies
-- Assumes nothing.
use Rattle.std.specs.Prelude.{ℕ, ◌≡◌, ◌≤◌, true, List, [], ◌∷◌, ◌++◌, Option, if◌then◌else◌}
use Rattle.std.specs.Result.{is_ok}
use Rattle.text.specs.Outcomes.{CallResult, served_as}
use Rattle.record.specs.declared.types.Device.{Device}
use Rattle.record.specs.declared.refusal.Refusal.{Refusal}
use Rattle.ours.specs.Board.{ours}
use Rattle.demands.specs.Calls.{Call, after, run}
use Rattle.history.specs.Entries.{call}
use Rattle.history.specs.Recording.{log_line_room, recorded_by, header_next, stated_by}
use Rattle.history.specs.declared.recorder.Recorder.{Recorder}
use Rattle.recorded.specs.Recorded.{is_served, recorded_call, recorded, replies_of, IsTypedCall}
use Rattle.recorded.specs.Chain.{Followed}

pub data HostStep : Type 0 where
  begins : (time : Option (List ℕ)) → HostStep
  makes : Call → HostStep
  states : HostStep

abbrev pub step_written : Recorder → Device → HostStep → ℕ → CallResult Refusal (Unit {0}) Recorder
step_written r d (begins t) n = recorded_by r (header_next r t) n
step_written r d (makes c) n =
    if is_served d c then recorded_by r (call (recorded_call d c)) n else served_as tt [] r
step_written r d states n = stated_by r d n

abbrev pub device_by : Device → HostStep → Device
device_by d (makes c) = after ours d c
device_by d s = d

abbrev pub host_log : Recorder → Device → List (HostStep × ℕ) → List ℕ
host_log r d [] = []
host_log r d (s ∷ ss) =
    let w = step_written r d s.0 s.1 in w.bytes ++ host_log w.leaves (device_by d s.0) ss

abbrev pub recorder_left : Recorder → Device → List (HostStep × ℕ) → Recorder
recorder_left r d [] = r
recorder_left r d (s ∷ ss) = recorder_left (step_written r d s.0 s.1).leaves (device_by d s.0) ss

abbrev pub step_calls : List (HostStep × ℕ) → List Call
step_calls [] = []
step_calls ((makes c, n) ∷ ss) = c ∷ step_calls ss
step_calls (s ∷ ss) = step_calls ss

abbrev pub IsKept : Recorder → Device → HostStep → ℕ → Type 0
IsKept r d (makes c) n = is_served d c ≡ true → is_ok (recorded_by r (call (recorded_call d c)) n).says ≡ true
IsKept r d s n = Unit {0}

abbrev pub AreKept : Recorder → Device → List (HostStep × ℕ) → Type 0
AreKept r d [] = Unit {0}
AreKept r d (s ∷ ss) = IsKept r d s.0 s.1 × AreKept (step_written r d s.0 s.1).leaves (device_by d s.0) ss

abbrev pub HaveRoom : List (HostStep × ℕ) → Type 0
HaveRoom [] = Unit {0}
HaveRoom (s ∷ ss) = (log_line_room ≤ s.1) × HaveRoom ss

abbrev pub IsTypedStep : HostStep → Type 0
IsTypedStep (makes c) = IsTypedCall c
IsTypedStep s = Unit {0}

abbrev pub AreTypedSteps : List (HostStep × ℕ) → Type 0
AreTypedSteps [] = Unit {0}
AreTypedSteps (s ∷ ss) = IsTypedStep s.0 × AreTypedSteps ss

-- ---- the host itself

abbrev pub host_left : Recorder → Device → List (HostStep × ℕ) → Followed
host_left r d ss = record {
  log = recorder_left r d ss;
  device = run ours d (step_calls ss);
  calls = recorded d (step_calls ss);
  replies = replies_of d (step_calls ss);
}
