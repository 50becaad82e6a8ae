-- The calls by their cases: what each gives by the tests that decide it, and what holds of a result because it holds in
-- every case.
-- Assumes nothing.
use Rattle.std.proofs.Common.{ℕ, ◌<◌, ◌≡◌, refl, Bool, true, false, List, [], length, set, arith, Some, None, Ok, Err}
use Rattle.text.specs.Flags.{flag_of}
use Rattle.text.specs.Outcomes.{CallResult, served_as, refused_as, call_number}
use Rattle.text.proofs.Choices.{if_by}
use Rattle.record.specs.Limits.{off}
use Rattle.record.specs.Wanted.{Wanted}
use Rattle.record.specs.Rules.{is_long_enough, is_error_list}
use Rattle.record.specs.Record.{all_closed, settings_of, start_own, start_device, blank}
use Rattle.record.specs.Legal.{is_legal}
use Rattle.record.specs.SetUp.{is_in_range, is_set_up, first_out_of_range, set_up}
use Rattle.record.specs.Refusals.{refusal_number}
use Rattle.record.specs.SetUpErrors.{set_up_error_number}
use Rattle.record.specs.Updates.{with_own, with_fault, with_errors, with_marks}
use Rattle.record.specs.HostCalls.{fault_set, errors_set, is_none_left, mark_set}
use Rattle.record.specs.declared.types.Settings.{Settings}
use Rattle.record.specs.declared.types.Own.{Own}
use Rattle.record.specs.declared.types.Connection.{Connection}
use Rattle.record.specs.declared.types.Device.{Device}
use Rattle.record.specs.declared.types.Setting.{Setting}
use Rattle.record.specs.declared.refusal.Refusal.{Refusal}
use Rattle.record.specs.declared.refusal.Refusal.TheVariants.{NotLegal, OutOfRange}
use Rattle.record.specs.declared.set_up_error.SetUpError.{SetUpError}
use Rattle.record.specs.declared.set_up_error.SetUpError.TheVariants.{OutOfRange as SettingOut, ShortPassword}
use Rattle.record.proofs.OutOfRange.{none_in_range, in_range_none}

module _ (w : Wanted) where
  abbrev long : Bool
  long = is_long_enough (length w.password)

  -- each setting in its range, and the password long enough
  pub set_up_long : is_set_up w ≡ true → long ≡ true
  unfolding is_set_up
  set_up_long h = grind (arith, h)

  pub set_up_shown : is_in_range w ≡ true → long ≡ true → is_set_up w ≡ true
  unfolding is_set_up
  set_up_shown h k = grind (arith, h, k)

  -- by the first setting out of its range, and the length of the password
  pub refused_out : (s : Setting) → first_out_of_range w ≡ Some s → set_up w ≡ refused_as blank (SettingOut s)
  unfolding set_up
  refused_out s e = rw e

  pub refused_short : first_out_of_range w ≡ None → long ≡ false → set_up w ≡ refused_as blank ShortPassword
  unfolding set_up
  refused_short e h = rw (e, h)

  pub none_refused : first_out_of_range w ≡ None → long ≡ true
      → set_up w ≡ served_as tt [] (start_device w)
  unfolding set_up
  none_refused e h = rw (e, h)

  pub set_up_cases : (P : CallResult SetUpError (Unit {0}) Device → Type 0)
      → ((s : Setting) → first_out_of_range w ≡ Some s → P (refused_as blank (SettingOut s)))
      → (is_in_range w ≡ true → long ≡ false → P (refused_as blank ShortPassword))
      → (is_in_range w ≡ true → long ≡ true → P (served_as tt [] (start_device w))) → P (set_up w)
  unfolding set_up
  set_up_cases P out short accept = grind (arith, none_in_range, if_by)

  pub set_up_accepted : is_set_up w ≡ true → set_up w ≡ served_as tt [] (start_device w)
  unfolding is_set_up
  set_up_accepted h = none_refused (in_range_none w (grind (arith, h))) (grind (arith, h))

  -- what is tested, and what is then set up
  pub checked_set_up : Ok tt ≡ (set_up w).says → is_set_up w ≡ true
  checked_set_up =
      set_up_cases (λ r. Ok tt ≡ r.says → is_set_up w ≡ true) (λ s e h. cc) (λ k l h. cc) (λ k l h. set_up_shown k l)

  pub checked_refused : (e : SetUpError) → Err e ≡ (set_up w).says → (set_up w).leaves ≡ blank
  checked_refused e =
      set_up_cases (λ r. Err e ≡ r.says → r.leaves ≡ blank) (λ s t h. refl) (λ k l h. refl) (λ k l h. cc)

  -- the started device, from its parts
  pub set_up_made : {s : Settings} {o : Own} {cs : List Connection} → is_set_up w ≡ true
      → s ≡ settings_of w → o ≡ start_own w.lamps → cs ≡ all_closed
      → served_as tt [] (record { settings = s; own = o; connections = cs }) ≡ set_up w
  unfolding start_device
  set_up_made h e f g = grind (arith, set_up_accepted)

  -- refused, and the record is the blank one; or set up
  pub set_up_by : (P : CallResult SetUpError (Unit {0}) Device → Type 0)
      → ((s : Setting) → P (refused_as blank (SettingOut s))) → P (refused_as blank ShortPassword)
      → (is_set_up w ≡ true → P (served_as tt [] (start_device w))) → P (set_up w)
  set_up_by P out short accept =
      set_up_cases P (λ s e. out s) (λ h k. short) (λ h k. accept (set_up_shown h k))

  -- set-up gives 0 there only
  pub set_up_in_range : call_number set_up_error_number (set_up w) ≡ 0 → is_set_up w ≡ true
  set_up_in_range =
      set_up_by (λ r. call_number set_up_error_number r ≡ 0 → is_set_up w ≡ true) (λ s e. cc) (λ e. cc) (λ h e. h)

module _ (d : Device) where
  pub fault_illegal : (m : Bool) → is_legal d ≡ false → fault_set d m ≡ refused_as d NotLegal
  unfolding fault_set
  fault_illegal m h = rw h

  pub errors_illegal : (ds : List ℕ) → is_legal d ≡ false → errors_set d ds ≡ refused_as d NotLegal
  unfolding errors_set
  errors_illegal ds h = rw h

  pub fault_accepted : (m : Bool) → is_legal d ≡ true
      → fault_set d m ≡ served_as tt [] (with_own d (with_fault d.own (flag_of m)))
  unfolding fault_set
  fault_accepted m h = rw h

  pub fault_set_by : (P : CallResult Refusal (Unit {0}) Device → Type 0) (m : Bool) → P (refused_as d NotLegal)
      → (is_legal d ≡ true → P (served_as tt [] (with_own d (with_fault d.own (flag_of m)))))
      → P (fault_set d m)
  unfolding fault_set
  fault_set_by P m refuse accept = grind arith

  pub errors_set_by : (P : CallResult Refusal (Unit {0}) Device → Type 0) (ds : List ℕ) → P (refused_as d NotLegal)
      → P (refused_as d OutOfRange)
      → (is_legal d ≡ true → is_error_list ds ≡ true → P (served_as tt [] (with_own d (with_errors d.own ds))))
      → P (errors_set d ds)
  unfolding errors_set
  errors_set_by P ds illegal wrong accept = grind (arith, if_by)

  -- a mark: refused, or one at least is left and the power is off
  pub mark_set_by : (P : CallResult Refusal (Unit {0}) Device → Type 0) (k : ℕ) (m : Bool)
      → ((e : Refusal) → (refusal_number e ≡ 0 → ⊥) → P (refused_as d e))
      → (is_legal d ≡ true → k < d.settings.lamp_count → is_none_left (set d.own.enabled k (flag_of m)) ≡ false
      → d.own.power ≡ off → P (served_as tt [] (with_own d (with_marks d.own (set d.own.enabled k (flag_of m))))))
      → P (mark_set d k m)
  unfolding mark_set
  mark_set_by P k m refuse accept = grind (arith, if_by)

  pub mark_not_legal : (k : ℕ) (m : Bool) → is_legal d ≡ false → mark_set d k m ≡ refused_as d NotLegal
  unfolding mark_set
  mark_not_legal k m h = rw h
