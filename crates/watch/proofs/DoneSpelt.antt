-- What an event leaves, by what it is.
-- Assumes nothing.
use Rattle.std.proofs.Common.{ℕ, ◌≡◌, refl, ap, Bool, List}
use Rattle.record.specs.HostCalls.{mark_set}
use Rattle.record.specs.declared.types.Device.{Device}
use Rattle.clock.specs.Passing.{time_passed}
use Rattle.device.specs.Calls.{reply_room, received_at, closed_by}
use Rattle.floorlog.specs.Events.{opens, receives, passes, closes, no_such}
use Rattle.floorlog.specs.Doing.{EventResult, log_place, opened_in_log}
use Rattle.floorlog.proofs.DidSpelt.{did_opening, event_result-receives, did_passing, did_closing, did_nothing}
use Rattle.watch.specs.Marking.{logged, marked, done_by}

module _ (d : Device) where
  pub done_opening : (r : ℕ) → done_by d (logged (opens r)) ≡ (opened_in_log d r).leaves
  unfolding done_by
  done_opening r = ap (λ (q : EventResult). q.leaves) (did_opening d r)

  pub done_receiving : (bs : List ℕ) → done_by d (logged (receives bs)) ≡ (received_at d log_place bs reply_room).leaves
  unfolding done_by
  done_receiving bs = ap (λ (q : EventResult). q.leaves) (event_result-receives d bs)

  pub done_passing : (n : ℕ) → done_by d (logged (passes n)) ≡ (time_passed d n).leaves
  unfolding done_by
  done_passing n = ap (λ (q : EventResult). q.leaves) (did_passing d n)

  pub done_closing : done_by d (logged closes) ≡ (closed_by d log_place).leaves
  unfolding done_by
  done_closing = ap (λ (q : EventResult). q.leaves) (did_closing d)

  pub done_nothing : done_by d (logged no_such) ≡ d
  unfolding done_by
  done_nothing = ap (λ (q : EventResult). q.leaves) (did_nothing d)

  pub done_marking : (lamp : ℕ) (mark : Bool) → done_by d (marked lamp mark) ≡ (mark_set d lamp mark).leaves
  unfolding done_by
  done_marking lamp mark = refl
