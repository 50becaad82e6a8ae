-- Opening in a log, case by case (RULES, Places): refused with 1, or with 5 where the place that the log drives is not
-- closed; else the device's own opening.
-- Assumes nothing.
use Rattle.std.proofs.Common.{arith, ℕ, ◌≡◌, ap, ◌∙◌, true, false, not}
use Rattle.text.specs.Outcomes.{refused_as}
use Rattle.text.proofs.Choices.{if_yes, if_no}
use Rattle.record.specs.Legal.{is_legal}
use Rattle.record.specs.Places.{connection_at, is_closed}
use Rattle.record.specs.declared.types.Device.{Device}
use Rattle.device.specs.Calls.{reply_room, opened_by}
use Rattle.floorlog.specs.Doing.{EventResult, with_numbers, log_place, opened_in_log}

module _ (d : Device) (r : ℕ) where
  pub log_opened_by : (P : EventResult → Type 0) → ((n : ℕ) → (n ≡ 0 → ⊥) → P (refused_as d n))
      → (is_legal d ≡ true → is_closed (connection_at d log_place) ≡ true → P (with_numbers (opened_by d r reply_room)))
      → P (opened_in_log d r)
  unfolding opened_in_log
  log_opened_by P refused opens = grind arith

  pub log_opened_illegal : is_legal d ≡ false → opened_in_log d r ≡ refused_as d 1
  unfolding opened_in_log
  log_opened_illegal h = if_yes _ _ (ap not h)

  module _ (legal : is_legal d ≡ true) where
    -- the second one
    pub log_opened_again : is_closed (connection_at d log_place) ≡ false → opened_in_log d r ≡ refused_as d 5
    unfolding opened_in_log
    log_opened_again live = if_no _ _ (ap not legal) ∙ if_yes _ _ (ap not live)

    pub log_opened_closed : is_closed (connection_at d log_place) ≡ true
        → opened_in_log d r ≡ with_numbers (opened_by d r reply_room)
    unfolding opened_in_log
    log_opened_closed shut = grind arith
