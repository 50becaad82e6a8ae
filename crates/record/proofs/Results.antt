-- The calls of this crate, against the table of numbers: the number is the first row that applies, a refusal leaves
-- the record that was given (a refused set-up the blank one), and the setting told is that for which set-up refused:
-- where it gives 3 the first that is out of its range, where it gives 8 the password (RULES, Passwords), and none
-- exactly where it gives 0.
-- Assumes nothing.
use Rattle.std.proofs.Common.{ℕ, ◌≡◌, refl, sym, Bool, true, false, not, ◌||◌, List, [], ◌∷◌, arith, length, set, ◌==◌}
use Rattle.std.specs.Prelude.{Some, None, if◌then◌else◌}
use Rattle.text.specs.Flags.{flag_of}
use Rattle.text.specs.Rows.{first_of, ◌when◌}
use Rattle.text.specs.Outcomes.{CallResult, call_number}
use Rattle.record.specs.Wanted.{Wanted}
use Rattle.record.specs.Rules.{is_long_enough, is_error_list}
use Rattle.record.specs.Limits.{off}
use Rattle.record.specs.Record.{blank}
use Rattle.record.specs.Refusals.{refusal_number}
use Rattle.record.specs.Legal.{is_legal}
use Rattle.record.specs.SetUp.{is_in_range, first_out_of_range, set_up}
use Rattle.record.specs.SetUpErrors.{set_up_error_number, setting_told}
use Rattle.record.specs.HostCalls.{fault_set, errors_set, is_no_lamp, is_none_left, mark_set}
use Rattle.record.specs.declared.types.Device.{Device}
use Rattle.record.specs.declared.types.Setting.TheVariants.{Password}
use Rattle.record.specs.declared.refusal.Refusal.{Refusal}
use Rattle.record.proofs.OutOfRange.{some_out}
use Rattle.record.proofs.Calls.{set_up_cases, set_up_by, fault_set_by, errors_set_by, mark_set_by}

module _ (w : Wanted) where
  abbrev out : Bool
  out = not (is_in_range w)

  abbrev long : Bool
  long = is_long_enough (length w.password)

  abbrev short : Bool
  short = not long

  pub set_up_number : call_number set_up_error_number (set_up w) ≡ (if out then 3 else if short then 8 else 0)
  set_up_number =
      set_up_cases w (λ r. call_number set_up_error_number r ≡ (if out then 3 else if short then 8 else 0))
      (λ s e. rw (some_out w s e)) (λ h k. rw (h, k)) (λ h k. rw (h, k))

  -- 3 exactly where a setting is out of its range, 8 exactly where none is and the password is short
  pub set_up_3 : call_number set_up_error_number (set_up w) ≡ 3 → is_in_range w ≡ false
  set_up_3 e = grind (arith, set_up_number, e)

  pub set_up_8 : call_number set_up_error_number (set_up w) ≡ 8 → (is_in_range w ≡ true) × (long ≡ false)
  set_up_8 e = grind (arith, set_up_number, e)

  pub set_up_refusal : (call_number set_up_error_number (set_up w) ≡ 0 → ⊥) → (set_up w).leaves ≡ blank
  set_up_refusal =
      set_up_by w (λ r. (call_number set_up_error_number r ≡ 0 → ⊥) → r.leaves ≡ blank) (λ s e. refl) (λ e. refl)
      (λ h e. absurd (e refl))

  pub none_gives_0 : setting_told (set_up w).says ≡ None → call_number set_up_error_number (set_up w) ≡ 0
  none_gives_0 = grind (arith, set_up_cases)

  pub gives_0_none : call_number set_up_error_number (set_up w) ≡ 0 → setting_told (set_up w).says ≡ None
  gives_0_none = grind (arith, set_up_cases)

  pub gives_8_password : call_number set_up_error_number (set_up w) ≡ 8 → setting_told (set_up w).says ≡ Some Password
  gives_8_password = grind (arith, set_up_cases)

  -- the first that is out of its range, a short password being in its range
  pub gives_3_first : call_number set_up_error_number (set_up w) ≡ 3
      → setting_told (set_up w).says ≡ first_out_of_range w
  gives_3_first =
      set_up_cases w (λ r. call_number set_up_error_number r ≡ 3 → setting_told r.says ≡ first_out_of_range w)
      (λ s e h. sym e) (λ k l h. cc) (λ k l h. cc)

module _ (d : Device) where
  abbrev illegal : Bool
  illegal = not (is_legal d)

  pub fault_number : (m : Bool) → call_number refusal_number (fault_set d m) ≡ (if illegal then 1 else 0)
  unfolding fault_set
  fault_number m = grind arith

  pub errors_number : (ds : List ℕ)
      → call_number refusal_number (errors_set d ds)
      ≡ (if illegal then 1 else if not (is_error_list ds) then 3 else 0)
  unfolding errors_set
  errors_number ds = grind arith

  pub mark_number : (k : ℕ) (m : Bool) → call_number refusal_number (mark_set d k m)
      ≡ first_of ((1 when illegal) ∷ (3 when (is_no_lamp d k || is_none_left (set d.own.enabled k (flag_of m))))
      ∷ (7 when not (d.own.power == off)) ∷ [])
  unfolding mark_set
  mark_number k m = grind arith

  -- a refused call leaves the record that it was given
  abbrev Rests : CallResult Refusal (Unit {0}) Device → Type 0
  Rests r = (call_number refusal_number r ≡ 0 → ⊥) → r.leaves ≡ d

  pub fault_refusal : (m : Bool) → Rests (fault_set d m)
  fault_refusal m = fault_set_by d Rests m (λ h. refl) (λ l h. absurd (h refl))

  pub errors_refusal : (ds : List ℕ) → Rests (errors_set d ds)
  errors_refusal ds = errors_set_by d Rests ds (λ h. refl) (λ h. refl) (λ l e h. absurd (h refl))

  pub mark_refusal : (k : ℕ) (m : Bool) → Rests (mark_set d k m)
  mark_refusal k m = mark_set_by d Rests k m (λ e some h. refl) (λ l i n o h. absurd (h refl))
