-- What a request does: it leaves lamps, fault and errors as they are, does nothing unless it is answered OK, and leaves
-- a legal projector legal.
--   Keeps o k      k has the lamps and their marks, the fault flag and the errors of o
-- Assumes nothing.
use Rattle.std.proofs.Common.{ℕ, ◌≤◌, ◌<◌, ◌≡◌, refl, Bool, true, false, not, ◌&&◌, arith, ◌==◌, Ok, Err}
use Rattle.text.proofs.Choices.{if_all}
use Rattle.text.proofs.FlagsTold.{flag_within}
use Rattle.pjlink.specs.declared.command.Half.{Half}
use Rattle.pjlink.specs.declared.command.Volume.{Volume}
use Rattle.pjlink.specs.declared.command.Command.TheVariants.{PowerSet, InputSet, MuteSet, Query, FreezeSet}
use Rattle.pjlink.specs.declared.command.Command.TheVariants.{VolumeStep, NameQuery}
use Rattle.pjlink.specs.Requests.{Request}
use Rattle.pjlink.specs.Said.{okay}
use Rattle.record.specs.Limits.{off, on, volume_most}
use Rattle.record.specs.Updates.{with_chosen, with_mutes}
use Rattle.record.specs.Legal.{is_settings, is_own}
use Rattle.record.specs.declared.types.Settings.{Settings}
use Rattle.record.specs.declared.types.Own.{Own}
use Rattle.record.specs.Facts.{IsOwn, IsSettings}
use Rattle.record.specs.Views.{IsPower, with_power}
use Rattle.record.specs.declared.views.Power.{Power}
use Rattle.record.specs.declared.views.Power.TheVariants.{WarmUp, Cooling}
use Rattle.record.proofs.PowerSeen.{written}
use Rattle.record.proofs.FactsTold.{own_is, settings_is}
use Rattle.meaning.specs.Rules.{is_out_of_parameter}
use Rattle.meaning.specs.Meaning.{level_after, after_power, after_mute, after_step, request_answer, carried_out}
use Rattle.meaning.specs.Meaning.{answer_for, after_request}
use Rattle.meaning.proofs.Cases.{refused_or_passed, done_by}

pub record Keeps (o k : Own) : Type 0 where
  pub lamps : k.lamps ≡ o.lamps
  pub marks : k.enabled ≡ o.enabled
  pub fault : k.fault ≡ o.fault
  pub errors : k.errors ≡ o.errors

all_kept : {o : Own} → Keeps o o
all_kept = record { lamps = refl; marks = refl; fault = refl; errors = refl }

module _ (s : Settings) (o : Own) where
  power_keeps : (wanted : Bool) → Keeps o (after_power s o wanted)
  unfolding after_power
  power_keeps wanted = grind arith

  after_keeps : (r : Request) → Keeps o (carried_out s o r)
  after_keeps r = grind (arith, power_keeps)

  pub done_keeps : (r : Request) → Keeps o (after_request s o r)
  done_keeps r = done_by s o r (Keeps o) all_kept (λ p. after_keeps r)

  told_or_kept : (r : Request) → (request_answer s o r ≡ okay → ⊥) → carried_out s o r ≡ o
  told_or_kept r h = grind arith

  -- what is not answered OK does nothing
  pub done_or_okay : (r : Request) → (answer_for s o r ≡ okay → ⊥) → after_request s o r ≡ o
  done_or_okay r = refused_or_passed s o r (λ m k. (m ≡ okay → ⊥) → k ≡ o) (λ n e. refl) (λ p. told_or_kept r)

  module _ (settings : is_settings s ≡ true) (own : is_own s o ≡ true) where
    abbrev set_up : IsSettings s
    set_up = (settings_is s).0 settings

    abbrev kept : IsOwn s o
    kept = (own_is s o).0 own

    is_own-with_power : (p : Power) → IsPower s.warm s.cool p → is_own s (with_power o p) ≡ true
    is_own-with_power p h = (own_is s _).1 (assumption (kept, written _ _ p h))

    is_own-after_power : (wanted : Bool) → is_own s (after_power s o wanted) ≡ true
    unfolding after_power
    is_own-after_power wanted =
        let Legal : Own → Type 0 = λ k. is_own s k ≡ true in
        if_all Legal (wanted && o.power == off) (is_own-with_power (WarmUp s.warm) (set_up.warm.low, omega arith))
        (if_all Legal (not wanted && o.power == on)
        (is_own-with_power (Cooling s.cool) (set_up.cool.low, omega arith))
        own)

    is_own-with_chosen : (place : ℕ) → place < s.input_count → is_own s (with_chosen o place) ≡ true
    is_own-with_chosen place h = (own_is s _).1 (assumption (kept, h))

    is_own-with_mutes : (video audio : ℕ) → video ≤ 1 → audio ≤ 1 → is_own s (with_mutes o video audio) ≡ true
    is_own-with_mutes video audio v a = (own_is s _).1 (assumption (kept, v, a))

    is_own-after_mute : (half : Half) (wanted : Bool) → is_own s (after_mute o half wanted) ≡ true
    is_own-after_mute half wanted = grind (arith, is_own-with_mutes, flag_within, kept.video_muted, kept.audio_muted)

    -- a step stays within the ends
    step_within : (up : Bool) (level : ℕ) → level ≤ volume_most → level_after up level ≤ volume_most
    unfolding level_after
    step_within up level h = grind arith

    is_own-after_step : (v : Volume) (up : Bool) → is_own s (after_step o v up) ≡ true
    is_own-after_step v up = grind (arith, own_is, step_within)

    is_own-carried_out : (r : Request) → is_out_of_parameter s r ≡ false → is_own s (carried_out s o r) ≡ true
    is_own-carried_out (Ok (PowerSet wanted)) e = is_own-after_power wanted
    is_own-carried_out (Ok (InputSet k i)) e = grind (arith, is_own-with_chosen)
    is_own-carried_out (Ok (MuteSet half wanted)) e = is_own-after_mute half wanted
    is_own-carried_out (Ok (Query b)) e = own
    is_own-carried_out (Ok (FreezeSet wanted)) e = (own_is s _).1 (assumption (kept, flag_within wanted))
    is_own-carried_out (Ok (VolumeStep v up)) e = is_own-after_step v up
    is_own-carried_out (Ok (NameQuery i)) e = own
    is_own-carried_out (Err u) e = own

    pub done_legal : (r : Request) → is_own s (after_request s o r) ≡ true
    done_legal r = done_by s o r (λ k. is_own s k ≡ true) own (λ p. is_own-carried_out r p.listed)
