-- A log drives one place only (RULES, Places): opening takes it where it is closed, since there is none lower, and
-- every other place that is closed stays so, as each is before a log.
-- Assumes nothing.
use Rattle.std.proofs.Common.{ℕ, ◌<◌, ◌≡◌, ap, ◌∙◌, true, false, List, [], ◌∷◌, arith, slice_index_or}
use Rattle.text.specs.Outcomes.{number_answered}
use Rattle.record.specs.Limits.{places_count}
use Rattle.record.specs.Legal.{is_legal, is_timed}
use Rattle.record.specs.Places.{no_connection, connection_at, is_closed, lowest_closed}
use Rattle.record.specs.Record.{closed, blank}
use Rattle.record.specs.declared.types.Connection.{Connection}
use Rattle.record.specs.declared.types.Device.{Device}
use Rattle.record.proofs.LowestClosed.{below_lowest}
use Rattle.record.proofs.Spelt.{closed_spelt, blank_spelt}
use Rattle.record.proofs.Calls.{set_up_by}
use Rattle.record.proofs.ConnectionsTold.{all_closed_at}
use Rattle.record.proofs.Started.{connection_at-start_device}
use Rattle.clock.proofs.Untouched.{passed_leaves}
use Rattle.device.specs.Calls.{reply_room, opened_by}
use Rattle.device.proofs.Cases.{opened_greeted}
use Rattle.device.proofs.Untouched.{receiving_keeps_others, opening_keeps_others, connection_at-closed_by}
use Rattle.floorlog.specs.Events.{LogEvent, opens, receives, passes, closes, no_such, events}
use Rattle.floorlog.specs.Doing.{log_place, event_result}
use Rattle.floorlog.specs.Playing.{sample_device, state_after}
use Rattle.floorlog.proofs.LogOpenings.{log_opened_by}

pub first_is_lowest_closed : (cs : List Connection) → is_closed (slice_index_or cs 0 no_connection) ≡ true →
    lowest_closed cs ≡ 0
first_is_lowest_closed cs e = grind (arith, below_lowest)

pub log_place_taken : (d : Device) → is_legal d ≡ true → is_closed (connection_at d log_place) ≡ true
    → (r : ℕ) → number_answered (opened_by d r reply_room) ≡ log_place
log_place_taken d legal shut r = grind (arith, first_is_lowest_closed, opened_greeted)

untimed : (c : Connection) → c ≡ closed → is_timed c.phase ≡ false
untimed c e = ap (λ (k : Connection). is_timed k.phase) (e ∙ closed_spelt)

blank-closed : (p : ℕ) → p < places_count → connection_at blank p ≡ closed
blank-closed p there = grind (arith, blank_spelt, closed_spelt, all_closed_at)

-- set-up leaves every place closed, and so does one that is refused
sample_closed : (p : ℕ) → p < places_count → connection_at sample_device p ≡ closed
unfolding sample_device
sample_closed p there =
    let none = blank-closed p there in
    set_up_by _ (λ r. connection_at r.leaves p ≡ closed) (λ s. none) none
    (λ h. connection_at-start_device _ p there)

module _ (p : ℕ) (other : p ≡ log_place → ⊥) where
  -- a closed place
  abbrev pub ClosedAt : Device → Type 0
  ClosedAt d = connection_at d p ≡ closed

  pub event_elsewhere : (d : Device) (e : LogEvent) → ClosedAt d → ClosedAt (event_result d e).leaves
  unfolding event_result
  event_elsewhere d (opens r) shut =
      log_opened_by d r (λ q. ClosedAt q.leaves) (λ n z. shut)
      (λ legal free. opening_keeps_others d r reply_room p
      (λ same. other (same ∙ log_place_taken d legal free r)) ∙ shut)
  event_elsewhere d (receives bs) shut = receiving_keeps_others d log_place bs reply_room p other ∙ shut
  event_elsewhere d (passes n) shut = grind (arith, passed_leaves, untimed)
  event_elsewhere d closes shut = connection_at-closed_by d log_place p other ∙ shut
  event_elsewhere d no_such shut = shut

  pub events_elsewhere : (d : Device) (es : List LogEvent) → ClosedAt d → ClosedAt (state_after d es)
  unfolding state_after
  events_elsewhere d [] shut = shut
  events_elsewhere d (e ∷ es) shut = events_elsewhere (event_result d e).leaves es (event_elsewhere d e shut)

  pub log_elsewhere : (log : List ℕ) → p < places_count → ClosedAt (state_after sample_device (events log))
  log_elsewhere log there = events_elsewhere sample_device (events log) (sample_closed p there)
