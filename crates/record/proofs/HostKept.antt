-- The host's calls keep a record legal.
-- Assumes nothing.
use Rattle.std.proofs.Common.{◌≡◌, ◌<◌, Bool, true, false, List, ℕ, set}
use Rattle.text.specs.Flags.{flag_of}
use Rattle.text.proofs.FlagsTold.{flag_within}
use Rattle.record.specs.Legal.{is_legal}
use Rattle.record.specs.Updates.{with_own, with_fault, with_errors, with_marks}
use Rattle.record.specs.HostCalls.{fault_set, errors_set, mark_set, is_none_left}
use Rattle.record.specs.Rules.{is_error_list}
use Rattle.record.specs.declared.types.Own.{Own}
use Rattle.record.specs.declared.types.Device.{Device}
use Rattle.record.specs.Facts.{IsOwn, IsLegal}
use Rattle.record.proofs.FactsTold.{legal_is}
use Rattle.record.proofs.Calls.{fault_set_by, errors_set_by, mark_set_by}
use Rattle.record.proofs.MarksTold.{marked_legal}

module _ (d : Device) (h : is_legal d ≡ true) where
  abbrev t : IsLegal d
  t = (legal_is d).0 h

  -- another own part that is legal under the same settings
  pub is_legal-with_own : (o : Own) → IsOwn d.settings o → is_legal (with_own d o) ≡ true
  is_legal-with_own o u = (legal_is (with_own d o)).1 (assumption (t, u))

  -- what each call leaves, as the code spells it
  pub fault_kept : (m : Bool) → is_legal (with_own d (with_fault d.own (flag_of m))) ≡ true
  fault_kept m = is_legal-with_own (with_fault d.own (flag_of m)) (assumption (t.own, flag_within m))

  pub errors_kept : (ds : List ℕ) → is_error_list ds ≡ true → is_legal (with_own d (with_errors d.own ds)) ≡ true
  errors_kept ds e = is_legal-with_own (with_errors d.own ds) (assumption (t.own, e))

  pub mark_kept : (k : ℕ) (m : Bool) → k < d.settings.lamp_count
      → is_none_left (set d.own.enabled k (flag_of m)) ≡ false
      → is_legal (with_own d (with_marks d.own (set d.own.enabled k (flag_of m)))) ≡ true
  mark_kept k m inside left =
      is_legal-with_own (with_marks d.own (set d.own.enabled k (flag_of m)))
      (assumption (t.own, marked_legal d.settings.lamp_count d.own.enabled k m t.own.marks inside left))

  pub fault_legal : (m : Bool) → is_legal (fault_set d m).leaves ≡ true
  fault_legal m = fault_set_by d (λ r. is_legal r.leaves ≡ true) m h (λ l. fault_kept m)

  pub errors_legal : (ds : List ℕ) → is_legal (errors_set d ds).leaves ≡ true
  errors_legal ds = errors_set_by d (λ r. is_legal r.leaves ≡ true) ds h h (λ l e. errors_kept ds e)

  pub mark_legal : (k : ℕ) (m : Bool) → is_legal (mark_set d k m).leaves ≡ true
  mark_legal k m =
      mark_set_by d (λ r. is_legal r.leaves ≡ true) k m (λ e some. h) (λ l inside left idle. mark_kept k m inside left)
