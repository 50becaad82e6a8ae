-- What was stored loads (RULES, Stored form, Lamps and Class 2): the form of settings that set-up takes, with marks of
-- their lamps, is loaded as their set-up with these marks; version 2's too, of settings of Class 1; version 1's as
-- their set-up, in which each lamp is enabled. Cut anywhere it is 21; what follows a form is left over, 22. So over a
-- board swap what a legal record stores loads as the set-up of its settings and of its lamps' seconds as they are, each
-- lamp with its mark; and what is stored of a fresh set-up is what it was set up with.
-- Assumes nothing.
use Rattle.std.proofs.Common.{ℕ, ◌*◌, ◌/◌, ◌<◌, ◌≡◌, Bool, true, false, ◌==◌, List, [], ◌∷◌, ◌++◌, length}
use Rattle.std.proofs.Common.{map, take, refl, sym, ap, ◌∙◌, arith, append-nil, length-take-le}
use Rattle.text.proofs.Choices.{if_yes, if_no}
use Rattle.record.specs.Wanted.{Wanted}
use Rattle.text.specs.Outcomes.{served_as, call_number}
use Rattle.stored.specs.Told.{load_error_number}
use Rattle.record.specs.SetUp.{is_set_up, is_setting_in_range}
use Rattle.record.proofs.Calls.{set_up_shown}
use Rattle.stored.specs.Form.{form_version, marked_version, old_version, form_bytes, form_of, marked_form_of}
use Rattle.stored.specs.Form.{old_form_of, version_form, name_stored, stored_of, marks_stored, stored_form, form}
use Rattle.stored.specs.Loading.{is_other_version, is_marks_of, contents, started_with, loaded_from, mark_room}
use Rattle.stored.proofs.Cases.{loaded_cut, loaded_over, loaded_whole, contents_of, contents_unmarked, saying}
use Rattle.stored.proofs.Cases.{started_if}
use Rattle.stored.proofs.Fields.{IsForm}
use Rattle.stored.proofs.Grammar.{says, form_written}
use Rattle.std.proofs.lemmas.List.{length-map}
use Rattle.text.proofs.Scanning.{list_all-map}
use Rattle.words.specs.Texts.{is_password, is_input_name, input_name_most}
use Rattle.record.specs.Limits.{text_room, input_room, lamps_most, only_in_2}
use Rattle.record.specs.Rules.{is_long_enough, is_inputs, is_lamps, are_names}
use Rattle.record.specs.Facts.{IsSettings, IsOwn}
use Rattle.record.specs.Updates.{with_own, with_marks}
use Rattle.record.specs.Record.{in_room, name_of, names_kept, start_device}
use Rattle.record.specs.Legal.{fills_name_room, is_legal}
use Rattle.record.specs.declared.types.Device.{Device}
use Rattle.record.specs.declared.types.Setting.{Setting}
use Rattle.record.specs.declared.types.Setting.TheVariants.{Inputs, WarmUp, Cooling, Names}
use Rattle.record.proofs.Kept.{kept_length, filled_take}
use Rattle.record.proofs.Rules.{names_many, names_shown}
use Rattle.record.proofs.NamesTold.{names_first}
use Rattle.record.proofs.LegalTold.{settings_of_legal, own_of_legal}
use Rattle.record.proofs.OutOfRange.{each_in_range, in_range_shown}
use Rattle.record.proofs.Started.{started_parts, inputs_halved}
use Rattle.stored.proofs.Marks.{front_seen, mark_room-take, room_front}
use Rattle.record.proofs.FactsTold.{stretch_is, fills_told}

-- the first byte, if it is still there, is the version
is_other_version-take : (k : ℕ) (s : List ℕ) → is_other_version s ≡ false → is_other_version (take k s) ≡ false
is_other_version-take k s h = grind arith

-- of each version
module _ (v : ℕ) (known : is_other_version (v ∷ []) ≡ false) (w : Wanted) (ok : is_set_up w ≡ true)
    (older : (v == form_version) ≡ false → w.class ≡ 1) (ms : List Bool) where
  abbrev s : List ℕ
  s = version_form v w ms

  written : IsForm form (says v w ok older ms) s
  written = form_written v w ok older ms

  pub version_over : (x : ℕ) (xs : List ℕ) → call_number load_error_number (loaded_from (s ++ x ∷ xs)) ≡ 22
  unfolding form_bytes
  version_over x xs = grind (arith, loaded_over (s ++ x ∷ xs) known (written.again (x ∷ xs)))

  pub version_cut : (k : ℕ) → k < length s → call_number load_error_number (loaded_from (take k s)) ≡ 21
  unfolding form_bytes
  version_cut k l = grind (arith, loaded_cut (take k s) (is_other_version-take k s known) (written.cut k l))

  version_loads : loaded_from s ≡ contents (says v w ok older ms)
  unfolding form_bytes
  version_loads = loaded_whole s known (ap form (sym (append-nil s)) ∙ written.again []) refl

-- with marks of the lamps
module _ (v : ℕ) (known : is_other_version (v ∷ []) ≡ false) (marked : (v == old_version) ≡ false) (w : Wanted)
    (ok : is_set_up w ≡ true) (older : (v == form_version) ≡ false → w.class ≡ 1) (ms : List Bool) where
  marked_loads : loaded_from (version_form v w ms) ≡ started_if w (is_marks_of (length w.lamps) ms) ms
  marked_loads =
      version_loads v known w ok older ms
      ∙ ap (λ (s : List ℕ). contents (saying w s)) (if_no _ _ marked)
      ∙ contents_of w ok ms

  marked_marks : call_number load_error_number (loaded_from (version_form v w ms)) ≡ 0
      → is_marks_of (length w.lamps) ms ≡ true
  marked_marks e = grind (arith, marked_loads, e)

module _ (w : Wanted) (ok : is_set_up w ≡ true) where
  -- the newest
  module _ (ms : List Bool) where
    pub form_loads : is_marks_of (length w.lamps) ms ≡ true
        → loaded_from (form_of w ms) ≡ served_as tt [] (started_with w ms)
    form_loads h = marked_loads form_version refl refl w ok (λ e. absurd (cc)) ms ∙ if_yes _ _ h

    pub form_marks : call_number load_error_number (loaded_from (form_of w ms)) ≡ 0
        → is_marks_of (length w.lamps) ms ≡ true
    form_marks = marked_marks form_version refl refl w ok (λ e. absurd (cc)) ms

  -- the two before it
  module _ (one : w.class ≡ 1) where
    module _ (ms : List Bool) where
      pub marked_form_loads : is_marks_of (length w.lamps) ms ≡ true
          → loaded_from (marked_form_of w ms) ≡ served_as tt [] (started_with w ms)
      marked_form_loads h = marked_loads marked_version refl refl w ok (λ e. one) ms ∙ if_yes _ _ h

      pub marked_form_marks : call_number load_error_number (loaded_from (marked_form_of w ms)) ≡ 0
          → is_marks_of (length w.lamps) ms ≡ true
      marked_form_marks = marked_marks marked_version refl refl w ok (λ e. one) ms

    pub old_form_loads : loaded_from (old_form_of w) ≡ served_as tt [] (start_device w)
    old_form_loads = version_loads old_version refl w ok (λ e. one) [] ∙ contents_unmarked w ok

-- ---- a board swap

module _ (d : Device) (h : is_legal d ≡ true) where
  told : IsSettings d.settings
  told = settings_of_legal d h

  own : IsOwn d.settings d.own
  own = own_of_legal d h

  -- how much is stored
  inputs_long : length (stored_of d).inputs ≡ 2 * d.settings.input_count
  inputs_long = kept_length input_room (is_inputs _) _ _ told.inputs

  lamps_many : length (stored_of d).lamps ≡ d.settings.lamp_count
  lamps_many = kept_length lamps_most is_lamps _ _ own.lamps

  names_in_range : are_names (only_in_2 d.settings.class_number d.settings.input_count) (stored_of d).names ≡ true
  names_in_range =
      let n = only_in_2 d.settings.class_number d.settings.input_count in
      let ns = take n d.settings.names in
      let many : length (stored_of d).names ≡ n = grind (
        arith,
        length-map ns name_stored,
        length-take-le n d.settings.names,
        told.names.long,
        told.names.inside,
      ) in
      names_shown n (stored_of d).names many
      (list_all-map (fills_name_room input_name_most) is_input_name name_stored
      (λ t e. ((fills_told input_name_most is_input_name t.bytes t.len).0 e).follows) ns told.names.follows)

  in_range : (s : Setting) → is_setting_in_range (stored_of d) s ≡ true
  in_range WarmUp = (stretch_is d.settings.warm).1 told.warm
  in_range Cooling = (stretch_is d.settings.cool).1 told.cool
  in_range Names = grind (arith, names_in_range, inputs_long)
  in_range s =
      grind (
        arith,
        told.name.follows,
        told.maker.follows,
        told.model.follows,
        told.other.follows,
        told.password.follows,
        told.inputs.follows,
        own.lamps.follows,
        told.serial.follows,
        told.version.follows,
      )

  pub stored_in_range : is_set_up (stored_of d) ≡ true
  stored_in_range =
      set_up_shown (stored_of d) (in_range_shown (stored_of d) in_range)
      (ap is_long_enough (kept_length text_room is_password _ _ told.password) ∙ told.is_long_enough)

  -- each mark as it was
  pub mark_room-marks_stored : mark_room (marks_stored d) ≡ d.own.enabled
  mark_room-marks_stored = mark_room-take d.settings.lamp_count d.own.enabled own.marks told.lamps

  pub stored_marks : is_marks_of (length (stored_of d).lamps) (marks_stored d) ≡ true
  stored_marks =
      grind (arith, front_seen _ _ own.marks told.lamps, lamps_many, mark_room-marks_stored, own.marks)

  pub stored_loads : loaded_from (stored_form d) ≡ served_as tt [] (started_with (stored_of d) (marks_stored d))
  stored_loads = form_loads (stored_of d) stored_in_range (marks_stored d) stored_marks

  -- in the words of the record
  pub stored_loads_as : loaded_from (stored_form d)
      ≡ served_as tt []
      (with_own (start_device (stored_of d)) (with_marks (start_device (stored_of d)).own d.own.enabled))
  stored_loads_as = grind (arith, stored_loads, mark_room-marks_stored)

module _ (w : Wanted) (ok : is_set_up w ≡ true) where
  met : (s : Setting) → is_setting_in_range w s ≡ true
  met = each_in_range w ok

  each_name : (ns : List (List ℕ)) → map name_stored (map name_of ns) ≡ ns
  each_name [] = refl
  each_name (t ∷ ts) = grind (arith, filled_take input_name_most t, each_name ts)

  names_stored : map name_stored (take (only_in_2 w.class (length w.inputs / 2)) (names_kept w.names)) ≡ w.names
  names_stored = grind (arith, names_many _ w.names (met Names), names_first w.names, each_name w.names)

  inputs_stored : take (2 * (length w.inputs / 2)) (in_room input_room w.inputs) ≡ w.inputs
  inputs_stored = rw (inputs_halved _ w.inputs (met Inputs)) (filled_take input_room w.inputs)

  pub started_stored : stored_of (start_device w) ≡ w
  started_stored = rw (started_parts w) (simp (filled_take, names_stored, inputs_stored))

  -- and the marks that a load gave it
  pub marks_stored-started_with : (ms : List Bool) → length ms ≡ length w.lamps → marks_stored (started_with w ms) ≡ ms
  marks_stored-started_with ms many = grind (arith, started_parts, room_front)
