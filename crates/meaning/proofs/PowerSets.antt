-- What requests do to the power and to the seconds left, for histories: only a power set that is answered OK changes
-- them, POWR 1 when off and POWR 0 when on, and each such set does.
--   PowerTurn s o r m k      what the request r, answered m, leaves of them in k
-- Assumes nothing.
use Rattle.std.proofs.Common.{arith, ◌≡◌, refl, ◌∙◌, Bool, true, false, eq-eqb, ne_eqb, Ok}
use Rattle.text.specs.Flags.{is_raised}
use Rattle.text.proofs.Choices.{if_yes, if_no}
use Rattle.pjlink.specs.declared.command.Half.{Half}
use Rattle.pjlink.specs.declared.command.Command.TheVariants.{PowerSet}
use Rattle.pjlink.specs.Requests.{Request}
use Rattle.pjlink.specs.Said.{Said, okay}
use Rattle.record.specs.Limits.{off, on, cooling, warming, is_between}
use Rattle.record.specs.Updates.{with_power_left}
use Rattle.record.specs.declared.types.Settings.{Settings}
use Rattle.record.specs.declared.types.Own.{Own}
use Rattle.meaning.specs.Meaning.{after_power, after_mute, request_answer, carried_out, answer_for, after_request}
use Rattle.meaning.proofs.Cases.{refused_or_passed, meant_passed}

pub data PowerTurn (s : Settings) (o : Own) (r : Request) (m : Said) (k : Own) : Type 0 where
  stays : k.power ≡ o.power → k.left ≡ o.left → PowerTurn s o r m k
  warms : r ≡ Ok (PowerSet true) → m ≡ okay → o.power ≡ off → k.power ≡ warming → k.left ≡ s.warm
      → PowerTurn s o r m k
  cools : r ≡ Ok (PowerSet false) → m ≡ okay → o.power ≡ on → k.power ≡ cooling → k.left ≡ s.cool
      → PowerTurn s o r m k

module _ (s : Settings) (o : Own) where
  muted : (half : Half) (wanted : Bool) {r : Request} {m : Said} → PowerTurn s o r m (after_mute o half wanted)
  muted half wanted = grind arith

  turns : (r : Request) → PowerTurn s o r (request_answer s o r) (carried_out s o r)
  unfolding after_power
  turns r = grind arith

  pub power_turns : (r : Request) → PowerTurn s o r (answer_for s o r) (after_request s o r)
  power_turns r = refused_or_passed s o r (PowerTurn s o r) (λ n. stays refl refl) (λ p. turns r)

  -- a power set passes exactly when the projector is neither at fault nor between on and off
  module _ (wanted : Bool) where
    abbrev OkayOnly : Said → Type 0
    OkayOnly m = m ≡ okay → (is_raised o.fault ≡ false) × (is_between o.power ≡ false)

    pub power_set_only : OkayOnly (answer_for s o (Ok (PowerSet wanted)))
    power_set_only =
        refused_or_passed s o (Ok (PowerSet wanted)) (λ m k. OkayOnly m) (λ n e. cc) (λ p e. (p.sound, p.timely))

    pub power_set_passes : is_raised o.fault ≡ false → is_between o.power ≡ false
        → answer_for s o (Ok (PowerSet wanted)) ≡ okay
    power_set_passes f b = grind (arith, meant_passed)

    pub power_set_done : answer_for s o (Ok (PowerSet wanted)) ≡ okay
        → after_request s o (Ok (PowerSet wanted)) ≡ after_power s o wanted
    power_set_done =
        refused_or_passed s o (Ok (PowerSet wanted)) (λ m k. m ≡ okay → k ≡ after_power s o wanted)
        (λ n e. cc) (λ p e. refl)

  pub on_when_off : answer_for s o (Ok (PowerSet true)) ≡ okay → o.power ≡ off
      → after_request s o (Ok (PowerSet true)) ≡ with_power_left o warming s.warm
  unfolding after_power
  on_when_off e h = power_set_done true e ∙ if_yes _ _ (eq-eqb o.power off h)

  pub on_otherwise : answer_for s o (Ok (PowerSet true)) ≡ okay → (o.power ≡ off → ⊥)
      → after_request s o (Ok (PowerSet true)) ≡ o
  unfolding after_power
  on_otherwise e h = power_set_done true e ∙ if_no _ _ (ne_eqb o.power off h)

  pub off_when_on : answer_for s o (Ok (PowerSet false)) ≡ okay → o.power ≡ on
      → after_request s o (Ok (PowerSet false)) ≡ with_power_left o cooling s.cool
  unfolding after_power
  off_when_on e h = power_set_done false e ∙ if_yes _ _ (eq-eqb o.power on h)

  pub off_otherwise : answer_for s o (Ok (PowerSet false)) ≡ okay → (o.power ≡ on → ⊥)
      → after_request s o (Ok (PowerSet false)) ≡ o
  unfolding after_power
  off_otherwise e h = power_set_done false e ∙ if_no _ _ (ne_eqb o.power on h)
