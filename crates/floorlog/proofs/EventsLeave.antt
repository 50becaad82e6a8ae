-- What an event leaves of the record: its settings stay, and it stays legal, or not legal. One that is not legal comes
-- back as it was, with 1 where the line has a form.
--   illegal_result d e    what the event e gives on the record d, which is not legal
-- Assumes nothing.
use Rattle.std.proofs.Common.{arith, ◌≡◌, refl, sym, ap, ◌∙◌, false, ℕ, List, [], Some}
use Rattle.text.specs.Outcomes.{served_as, refused_as}
use Rattle.text.specs.Words.{over}
use Rattle.record.specs.Legal.{is_legal}
use Rattle.record.specs.declared.types.Device.{Device}
use Rattle.clock.proofs.Cases.{passed_illegal}
use Rattle.clock.proofs.TimeLegal.{passed_legality}
use Rattle.clock.proofs.Untouched.{passed_leaves}
use Rattle.device.specs.Calls.{reply_room}
use Rattle.device.proofs.Untouched.{receiving_keeps_settings, opening_keeps_settings, closing_keeps_settings}
use Rattle.device.proofs.Illegal.{received_illegal, closed_illegal, received_legality, opened_legality, closed_legality}
use Rattle.record.specs.declared.refusal.Refusal.TheVariants.{NotLegal}
use Rattle.floorlog.specs.declared.event.Event.{Event}
use Rattle.floorlog.specs.declared.event.Event.TheVariants.{NoSuch}
use Rattle.floorlog.specs.declared.outcome.EventOutcome.TheVariants.{Refused}
use Rattle.floorlog.specs.Outcomes.{outcome_text}
use Rattle.floorlog.specs.Events.{LogEvent, opens, receives, passes, closes, no_such, event_said}
use Rattle.floorlog.specs.Doing.{EventResult, log_place, event_result, result_text, event_answer}
use Rattle.floorlog.proofs.LogOpenings.{log_opened_by, log_opened_illegal}

abbrev pub illegal_result : Device → LogEvent → EventResult
illegal_result d no_such = served_as tt [] d
illegal_result d e = refused_as d 1

module _ (d : Device) where
  pub event_result-settings : (e : LogEvent) → (event_result d e).leaves.settings ≡ d.settings
  unfolding event_result
  event_result-settings (opens r) =
      log_opened_by d r (λ q. q.leaves.settings ≡ d.settings) (λ n z. refl)
      (λ h c. opening_keeps_settings d r reply_room)
  event_result-settings (receives bs) = receiving_keeps_settings d log_place bs reply_room
  event_result-settings (passes n) = (passed_leaves d n).settings
  event_result-settings closes = closing_keeps_settings d log_place
  event_result-settings no_such = refl

  pub did_legality : (e : LogEvent) → is_legal (event_result d e).leaves ≡ is_legal d
  unfolding event_result
  did_legality (opens r) =
      log_opened_by d r (λ q. is_legal q.leaves ≡ is_legal d) (λ n z. refl) (λ h c. opened_legality d r reply_room)
  did_legality (receives bs) = received_legality d log_place bs reply_room
  did_legality (passes n) = passed_legality d n
  did_legality closes = closed_legality d log_place
  did_legality no_such = refl

  pub did_illegal : (e : LogEvent) → is_legal d ≡ false → event_result d e ≡ illegal_result d e
  unfolding event_result
  did_illegal e h = grind (arith, log_opened_illegal, received_illegal, passed_illegal, closed_illegal)

  illegal_quiet : (e : LogEvent) → ((illegal_result d e).leaves ≡ d) × ((illegal_result d e).bytes ≡ [])
  illegal_quiet (opens r) = (refl, refl)
  illegal_quiet (receives bs) = (refl, refl)
  illegal_quiet (passes n) = (refl, refl)
  illegal_quiet closes = (refl, refl)
  illegal_quiet no_such = (refl, refl)

  pub illegal_kept : (e : LogEvent) → is_legal d ≡ false → d ≡ (event_result d e).leaves
  illegal_kept e h = sym (ap (λ (r : EventResult). r.leaves) (did_illegal e h) ∙ (illegal_quiet e).0)

  pub illegal_silent : (e : LogEvent) (m : List ℕ) → is_legal d ≡ false → m ≡ over (event_result d e).bytes m
  illegal_silent e m h =
      sym (ap (λ (l : List ℕ). over l m) (ap (λ (r : EventResult). r.bytes) (did_illegal e h) ∙ (illegal_quiet e).1))

  pub illegal_text : (e : Event) (m : List ℕ) → is_legal d ≡ false → (e ≡ NoSuch → ⊥)
      → outcome_text (Refused NotLegal) m ≡ result_text (event_said e) (event_result d (event_said e))
  illegal_text e m h g = grind (arith, did_illegal)

  pub illegal_answer : (e : Event) → is_legal d ≡ false → (e ≡ NoSuch → ⊥)
      → Some 1 ≡ event_answer (event_said e) (event_result d (event_said e))
  illegal_answer e h g = grind (arith, did_illegal)
