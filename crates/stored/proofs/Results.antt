-- What loading and storing give (RULES, Stored form): the number is that of the first row that applies, for every byte
-- string and every record; a refused load gives the blank record, a refused store writes no byte; an accepted load is a
-- set-up with the marks that the form has (RULES, Lamps), and legal.
--   IsAccepted s      an accepted load: the version is known, the form is all that stands there, the contents are legal
--   StoredTold r      an accepted store: the record is legal, the memory has room, the bytes are the form's
-- Assumes nothing.
use Rattle.std.proofs.Common.{ℕ, ◌≤◌, ◌≡◌, Bool, true, false, ◌==◌, List, [], length, Option, Some, Err}
use Rattle.std.proofs.Common.{arith}
use Rattle.text.specs.Rows.{first_of, numbers_of}
use Rattle.words.specs.Bytes.{◌at◌}
use Rattle.record.specs.Wanted.{Wanted}
use Rattle.record.specs.Rules.{is_marks}
use Rattle.record.specs.Record.{blank}
use Rattle.record.specs.Legal.{is_legal}
use Rattle.record.specs.SetUp.{is_set_up}
use Rattle.record.specs.declared.types.Device.{Device}
use Rattle.record.proofs.LegalTold.{own_of_legal}
use Rattle.record.proofs.HostKept.{is_legal-with_own}
use Rattle.record.proofs.Started.{started_parts, started_legal}
use Rattle.text.specs.Outcomes.{CallResult, served_as, refused_as, call_number}
use Rattle.record.specs.Refusals.{refusal_number}
use Rattle.record.specs.declared.refusal.Refusal.{Refusal}
use Rattle.stored.specs.Form.{form_version, FormSaid, form, stored_form, storing_rows, stored_by}
use Rattle.stored.specs.Told.{load_error_number}
use Rattle.stored.specs.declared.error.LoadError.{LoadError}
use Rattle.stored.specs.Loading.{is_other_version, ends_early, leaves_more, said_by_form, said_in, settings_in}
use Rattle.stored.specs.Loading.{mark_bytes_in, marks_read, mark_room, are_marks, started_with, load_rows, loaded_from}
use Rattle.stored.proofs.Marks.{marks_are}
use Rattle.stored.proofs.Grammar.{nothing, form_read}

-- a set-up with legal marks is legal
pub is_legal-started_with : (w : Wanted) (ms : List Bool) → is_set_up w ≡ true
    → is_marks (length w.lamps) (mark_room ms) ≡ true → is_legal (started_with w ms) ≡ true
is_legal-started_with w ms ok h = grind (arith, started_legal, own_of_legal, is_legal-with_own, started_parts)

-- what neither ends early nor leaves more
read_whole : (o : Option (FormSaid × List ℕ)) → ends_early o ≡ false → leaves_more o ≡ false
    → o ≡ Some (said_by_form o, [])
read_whole o h g = grind (arith, nothing)

module _ (s : List ℕ) where
  pub record IsAccepted : Type 0 where
    pub version : is_other_version s ≡ false
    pub read : form s ≡ Some (said_in s, [])
    pub contents : is_set_up (settings_in s) ≡ true
    pub marks : are_marks (length (settings_in s).lamps) (mark_bytes_in s) ≡ true

  -- 20, 21, 22, 23, in that order, or 0
  pub loading_number : call_number load_error_number (loaded_from s)
      ≡ first_of (numbers_of load_error_number (load_rows s))
  unfolding loaded_from
  loading_number = grind arith

  pub refused_load_blank : (call_number load_error_number (loaded_from s) ≡ 0 → ⊥) → (loaded_from s).leaves ≡ blank
  unfolding loaded_from
  refused_load_blank h = grind (arith, h)

  -- by what is returned
  pub load_refused : (e : LoadError) → Err e ≡ (loaded_from s).says → (loaded_from s).leaves ≡ blank
  unfolding loaded_from
  load_refused e h = grind (arith, h)

  pub accepted_told : call_number load_error_number (loaded_from s) ≡ 0 → IsAccepted
  unfolding loaded_from
  accepted_told e = grind (arith, read_whole)

  pub accepted_set_up : call_number load_error_number (loaded_from s) ≡ 0
      → loaded_from s ≡ served_as tt [] (started_with (settings_in s) (marks_read s))
  unfolding loaded_from
  accepted_set_up e = grind (arith, e)

  pub accepted_legal : call_number load_error_number (loaded_from s) ≡ 0 → is_legal (loaded_from s).leaves ≡ true
  unfolding loaded_from
  accepted_legal e = grind (arith, accepted_told, marks_are, accepted_set_up, is_legal-started_with)

  -- versions 1 and 2 are of Class 1 (RULES, Class 2)
  pub older_is_class_1 : ((s at 0) == form_version) ≡ false → call_number load_error_number (loaded_from s) ≡ 0
      → (settings_in s).class ≡ 1
  older_is_class_1 older e = (form_read s (accepted_told e).read).class older

-- ---- what storing gives

module _ (d : Device) (room : ℕ) where
  pub storing_number : call_number refusal_number (stored_by d room)
      ≡ first_of (numbers_of refusal_number (storing_rows d room))
  unfolding stored_by
  storing_number = grind arith

  pub record StoredTold (r : CallResult Refusal (Unit {0}) (Unit {0})) : Type 0 where
    pub legal : is_legal d ≡ true
    pub fits : length (stored_form d) ≤ room
    pub form : r ≡ served_as tt (stored_form d) tt

  pub storing_by : (P : CallResult Refusal (Unit {0}) (Unit {0}) → Type 0) → ((e : Refusal) → P (refused_as tt e))
      → (is_legal d ≡ true → length (stored_form d) ≤ room → P (served_as tt (stored_form d) tt))
      → P (stored_by d room)
  unfolding stored_by
  storing_by P refuse accept = grind arith

  pub refused_store_writes_nothing : (call_number refusal_number (stored_by d room) ≡ 0 → ⊥)
      → (stored_by d room).bytes ≡ []
  unfolding stored_by
  refused_store_writes_nothing h = grind (arith, h)

  pub stored_told : call_number refusal_number (stored_by d room) ≡ 0 → StoredTold (stored_by d room)
  unfolding stored_by
  stored_told e = record { legal = grind (arith, e); fits = grind (arith, e); form = grind (arith, e) }
