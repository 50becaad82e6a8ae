-- What a player returns for a recorded call that it makes (RULES, History of a board).
--   PlayTold         the number of the call, whether it belongs to the record, and the length of its reply if it does
--   call_told d c    this for the recorded call c on the record d
--   play_told r      the same of what the player's function returns
--   quiet_told r     of what a call returns that replies nothing, and belongs where it is served
-- Assumes nothing.
use Rattle.std.specs.Prelude.{ℕ, Bool, true, false, Result, Ok, Err, if◌then◌else◌}
use Rattle.record.specs.Refusals.{refusal_number}
use Rattle.record.specs.declared.refusal.Refusal.{Refusal}
use Rattle.record.specs.declared.types.Device.{Device}
use Rattle.ours.specs.Board.{ours}
use Rattle.demands.specs.Calls.{gave_by, number_of}
use Rattle.history.specs.Calls.{LogCall}
use Rattle.recorded.specs.Playing.{played_call, belongs}
use Rattle.recorded.specs.declared.play.Stray.{Stray}
use Rattle.recorded.specs.declared.play.Stray.TheVariants.{Refused, OtherPlace}

pub record PlayTold : Type 0 where
  pub number : ℕ
  pub belonging : Bool
  pub length : ℕ

abbrev pub call_told : Device → LogCall → PlayTold
call_told d c = record {
  number = number_of ours d (played_call c);
  belonging = belongs d c;
  length = if belongs d c then (gave_by ours d (played_call c)).length else 0;
}

abbrev pub play_told : Result ℕ Stray → PlayTold
play_told (Ok n) = record { number = 0; belonging = true; length = n }
play_told (Err (Refused why)) = record { number = refusal_number why; belonging = false; length = 0 }
play_told (Err OtherPlace) = record { number = 0; belonging = false; length = 0 }

abbrev pub quiet_told : Result (Unit {0}) Refusal → PlayTold
quiet_told (Ok u) = record { number = 0; belonging = true; length = 0 }
quiet_told (Err why) = record { number = refusal_number why; belonging = false; length = 0 }
