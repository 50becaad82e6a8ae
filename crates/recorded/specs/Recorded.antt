-- What a log records of a run of calls (RULES, History of a board): each call that is served, with the place that an
-- opening got and the bytes that a receive took; the memory of a call is not recorded.
--   is_served d c        the call c on the record d is not refused
--   recorded_call d c    what is recorded of it
--   recorded d cs        what is recorded of the calls cs, from the record d on; a refused call is left out
--   replied_by d c       what it replies
--   replies_of d cs      the reply of each call that is served, in the order made
--   IsTypedCall c        its numbers are those that the code's types have;   AreTypedCalls cs   of each
--   TakeFew d cs         none of the calls takes more bytes than one call of a log receives
-- Assumes nothing.
use Rattle.std.specs.List.{list_all}
use Rattle.std.specs.Prelude.{ℕ, ◌≤◌, ◌<◌, ◌≡◌, ◌^◌, Bool, true, List, [], ◌∷◌, take, if◌then◌else◌, ◌==◌}
use Rattle.record.specs.declared.types.Device.{Device}
use Rattle.ours.specs.Board.{ours}
use Rattle.demands.specs.Calls.{Call, opens, closes, receives, passes, faults, reports, enables}
use Rattle.demands.specs.Calls.{after, gave_by, number_of}
use Rattle.history.specs.Calls.{LogCall, received_most, is_byte, opens as opened, closes as closed}
use Rattle.history.specs.Calls.{receives as received, passes as passed, faults as marked, reports as reported}
use Rattle.history.specs.Calls.{enables as enabled}

abbrev pub is_served : Device → Call → Bool
is_served d c = number_of ours d c == 0

abbrev pub recorded_call : Device → Call → LogCall
recorded_call d (opens random m) = opened (ours.place_opened d random m) random
recorded_call d (closes p) = closed p
recorded_call d (receives p bs m) = received p (take (ours.receive d p bs m).taken bs)
recorded_call d (passes n) = passed n
recorded_call d (faults fault) = marked fault
recorded_call d (reports errors) = reported errors
recorded_call d (enables lamp mark) = enabled lamp mark

abbrev pub recorded : Device → List Call → List LogCall
recorded d [] = []
recorded d (c ∷ cs) =
    if is_served d c then recorded_call d c ∷ recorded (after ours d c) cs else recorded (after ours d c) cs

abbrev pub replied_by : Device → Call → List ℕ
replied_by d c = take (gave_by ours d c).length (gave_by ours d c).memory

abbrev pub replies_of : Device → List Call → List (List ℕ)
replies_of d [] = []
replies_of d (c ∷ cs) =
    if is_served d c then replied_by d c ∷ replies_of (after ours d c) cs else replies_of (after ours d c) cs

abbrev pub IsTypedCall : Call → Type 0
IsTypedCall (opens random m) = random < 2 ^ 32
IsTypedCall (receives p bs m) = list_all is_byte bs ≡ true
IsTypedCall (passes n) = n < 2 ^ 32
IsTypedCall c = Unit {0}

abbrev pub AreTypedCalls : List Call → Type 0
AreTypedCalls [] = Unit {0}
AreTypedCalls (c ∷ cs) = IsTypedCall c × AreTypedCalls cs

abbrev pub TakeFew : Device → List Call → Type 0
TakeFew d [] = Unit {0}
TakeFew d (c ∷ cs) = ((gave_by ours d c).taken ≤ received_most) × TakeFew (after ours d c) cs
