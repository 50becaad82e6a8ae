-- What an event of a log does, by what it is.
-- Assumes nothing.
use Rattle.std.proofs.Common.{ℕ, ◌≡◌, refl, List, []}
use Rattle.text.specs.Outcomes.{served_as}
use Rattle.record.specs.declared.types.Device.{Device}
use Rattle.clock.specs.Passing.{time_passed}
use Rattle.device.specs.Calls.{reply_room, received_at, closed_by}
use Rattle.floorlog.specs.Events.{opens, receives, passes, closes, no_such}
use Rattle.floorlog.specs.Doing.{log_place, with_numbers, opened_in_log, event_result}

module _ (d : Device) where
  pub did_opening : (r : ℕ) → event_result d (opens r) ≡ opened_in_log d r
  unfolding event_result
  did_opening r = refl

  pub event_result-receives : (bs : List ℕ) → event_result d (receives bs)
      ≡ with_numbers (received_at d log_place bs reply_room)
  unfolding event_result
  event_result-receives bs = refl

  pub did_passing : (n : ℕ) → event_result d (passes n) ≡ with_numbers (time_passed d n)
  unfolding event_result
  did_passing n = refl

  pub did_closing : event_result d closes ≡ with_numbers (closed_by d log_place)
  unfolding event_result
  did_closing = refl

  pub did_nothing : event_result d no_such ≡ served_as tt [] d
  unfolding event_result
  did_nothing = refl
