-- Each version has one form (RULES, Stored form, Lamps and Class 2): bytes that load are their version's form of what
-- they load. So those of the newest, stored again, are the same bytes; those of the old one become the newest form of
-- the same, each lamp enabled; and no two byte strings of one version load as one record.
-- Assumes nothing.
use Rattle.std.proofs.Common.{ℕ, ◌≡◌, Bool, true, List, [], length, map, replicate, refl, sym, ap, ◌∙◌, arith}
use Rattle.std.proofs.Common.{append-nil}
use Rattle.std.proofs.lemmas.List.{length-map}
use Rattle.words.specs.Bytes.{◌at◌}
use Rattle.record.specs.Wanted.{Wanted}
use Rattle.record.specs.declared.types.Device.{Device}
use Rattle.text.specs.Outcomes.{CallResult, call_number}
use Rattle.stored.specs.Told.{load_error_number}
use Rattle.stored.specs.declared.error.LoadError.{LoadError}
use Rattle.text.specs.Flags.{is_raised}
use Rattle.text.proofs.FlagsTold.{flags_replicate, flags_told, flags_again}
use Rattle.stored.specs.Form.{form_bytes, form_version, old_version, version_form, old_form_of, stored_of}
use Rattle.stored.specs.Form.{marks_stored, stored_form}
use Rattle.stored.specs.Loading.{said_in, settings_in, mark_bytes_in, marks_read, started_with, loaded_from}
use Rattle.stored.proofs.Marks.{AreMarks, marks_are}
use Rattle.stored.proofs.Results.{IsAccepted, accepted_told, accepted_set_up}
use Rattle.stored.proofs.FormsLoad.{started_stored, marks_stored-started_with}
use Rattle.stored.proofs.Fields.{Bytes}
use Rattle.stored.proofs.Grammar.{ReadAs, form_read}

-- what a load gives, stored: the settings and the marks in the bytes
module _ (s : List ℕ) (e : call_number load_error_number (loaded_from s) ≡ 0) where
  abbrev d : Device
  d = (loaded_from s).leaves

  told : IsAccepted s
  told = accepted_told s e

  read : ReadAs s (said_in s) []
  read = form_read s told.read

  marks : AreMarks (length (settings_in s).lamps) (mark_bytes_in s)
  marks = (marks_are _ (mark_bytes_in s)).0 told.marks

  gave : d ≡ started_with (settings_in s) (marks_read s)
  gave = ap (λ (c : CallResult LoadError (Unit {0}) Device). c.leaves) (accepted_set_up s e)

  settings_stored : stored_of d ≡ settings_in s
  settings_stored = ap stored_of gave ∙ started_stored (settings_in s) told.contents

  marks_stored_lem : marks_stored d ≡ marks_read s
  unfolding form_bytes loaded_from
  marks_stored_lem = grind (arith, gave, marks_stored-started_with, length-map)

  -- the bytes are their version's form of what stands in them
  version_again : Bytes s → version_form (s at 0) (settings_in s) (marks_read s) ≡ s
  version_again b =
      ap (λ (m : List ℕ). form_bytes (s at 0) (record { settings = settings_in s; marks = m }))
      (flags_again (mark_bytes_in s) marks.each)
      ∙ sym (append-nil (form_bytes (s at 0) (said_in s)))
      ∙ sym (read.formed.joined b)

  -- stored again as their version has it, the same bytes
  pub stored_as_it_was : Bytes s → version_form (s at 0) (stored_of d) (marks_stored d) ≡ s
  stored_as_it_was b = (λ i. version_form (s at 0) (settings_stored i) (marks_stored_lem i)) ∙ version_again b

  pub stored_again : Bytes s → s at 0 ≡ form_version → stored_form d ≡ s
  stored_again b o = ap (λ (v : ℕ). version_form v (stored_of d) (marks_stored d)) (sym o) ∙ stored_as_it_was b

-- the oldest has no marks
pub old_unmarked : (w : Wanted) (ms : List Bool) → version_form old_version w ms ≡ old_form_of w
unfolding form_bytes
old_unmarked w ms = refl

-- each lamp of an old form is enabled
pub old_enabled : (s : List ℕ) (e : call_number load_error_number (loaded_from s) ≡ 0) → s at 0 ≡ old_version
    → marks_stored (d s e) ≡ replicate (length (stored_of (d s e)).lamps) true
old_enabled s e o =
    let n = length (settings_in s).lamps in
    let ones : mark_bytes_in s ≡ replicate n 1 = (read s e).marks (grind (arith, o)) in
    marks_stored_lem s e
    ∙ ap (map is_raised) (ones ∙ sym (flags_replicate n))
    ∙ flags_told (replicate n true)
    ∙ ap (λ (w : Wanted). replicate (length w.lamps) true) (sym (settings_stored s e))

-- bytes of one version that load as one record are one
pub forms_apart : (s t : List ℕ) → Bytes s → Bytes t → call_number load_error_number (loaded_from s) ≡ 0
    → call_number load_error_number (loaded_from t) ≡ 0 → s at 0 ≡ t at 0
    → (loaded_from s).leaves ≡ (loaded_from t).leaves → s ≡ t
unfolding form_bytes loaded_from
forms_apart s t b c e f version same = grind (arith, stored_as_it_was)
