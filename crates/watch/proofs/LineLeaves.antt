-- What a line leaves: the settings, the places but one, a legal record or one that is not; and its seconds.
-- Assumes nothing.
use Rattle.std.proofs.Common.{ℕ, ◌≤◌, ◌≡◌, refl, ◌∙◌, true, arith, List, set}
use Rattle.record.specs.Legal.{is_legal}
use Rattle.record.specs.Places.{connection_at}
use Rattle.record.specs.declared.types.Device.{Device}
use Rattle.record.proofs.Calls.{mark_set_by, mark_not_legal}
use Rattle.record.proofs.HostKept.{mark_legal}
use Rattle.clock.specs.Passing.{seconds_most}
use Rattle.floorlog.specs.Doing.{log_place}
use Rattle.floorlog.specs.Told.{Drives}
use Rattle.floorlog.proofs.Driven.{none_pass, itself_kept, did_drives}
use Rattle.floorlog.proofs.EventsLeave.{event_result-settings, did_legality}
use Rattle.floorlog.proofs.EventSeconds.{event_seconds}
use Rattle.watch.specs.Marking.{WatchedLogEvent, logged, marked, done_by, seconds_by, floor_event}

module _ (d : Device) where
  pub done_settings : (e : WatchedLogEvent) → (done_by d e).settings ≡ d.settings
  unfolding done_by
  done_settings (logged e) = event_result-settings d e
  done_settings (marked lamp mark) =
      mark_set_by d (λ c. c.leaves.settings ≡ d.settings) lamp mark (λ e z. refl) (λ h i l p. refl)

  pub done_legality : (e : WatchedLogEvent) → is_legal (done_by d e) ≡ is_legal d
  unfolding done_by
  done_legality e = grind (arith, did_legality, mark_legal, mark_not_legal)

  pub done_legal : is_legal d ≡ true → (e : WatchedLogEvent) → is_legal (done_by d e) ≡ true
  done_legal legal e = done_legality e ∙ legal

  pub done_drives : (e : WatchedLogEvent) → Drives (seconds_by e) d (done_by d e)
  unfolding done_by
  done_drives (logged e) = did_drives d e
  done_drives (marked lamp mark) =
      none_pass d (done_by d (marked lamp mark))
      (mark_set_by d (λ c. Stays c.leaves) lamp mark (λ e z. itself_kept d) (λ h i l p. itself_kept d))
    where
      Stays : Device → Type 0
      Stays after = set d.connections log_place (connection_at after log_place) ≡ after.connections

  -- along an equation for what is left
  pub driven : (e : WatchedLogEvent) {n : ℕ} {after : Device} → n ≡ seconds_by e → after ≡ done_by d e
      → Drives n d after
  driven e {n} {after} passed left = grind (arith, done_drives)

-- ---- the seconds of a line

pub floor_seconds : (l : List ℕ) → seconds_by (floor_event l) ≤ seconds_most
unfolding floor_event
floor_seconds l = grind (arith, event_seconds)
