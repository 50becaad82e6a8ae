-- What set-up leaves: an accepted one a legal record, a refused one the blank record, which is not legal.
-- Assumes nothing.
use Rattle.std.proofs.Common.{ℕ, ◌-◌, ◌*◌, ◌/◌, ◌<◌, ◌≡◌, refl, sym, subst, true, false, List, arith, length}
use Rattle.std.proofs.Common.{slice_index_or}
use Rattle.std.proofs.Math.ListN.{get_or-append}
use Rattle.text.specs.Outcomes.{call_number}
use Rattle.text.proofs.Choices.{by_not}
use Rattle.words.specs.Texts.{is_text, is_name, is_info, is_password, info_most}
use Rattle.record.specs.Limits.{text_room, input_room, lamps_most, places_count, only_in_2}
use Rattle.record.specs.Wanted.{Wanted}
use Rattle.record.specs.Rules.{is_new_input, is_inputs, is_lamps, is_error_list}
use Rattle.record.specs.Record.{zeros, in_room, names_kept, closed, all_closed, all_marks, settings_of}
use Rattle.record.specs.Record.{start_own, start_device, blank}
use Rattle.record.specs.Legal.{is_settings, is_own, is_legal}
use Rattle.record.specs.Facts.{Fills, IsNames}
use Rattle.record.specs.Places.{connection_at}
use Rattle.record.specs.SetUp.{is_setting_in_range, is_set_up, set_up}
use Rattle.record.specs.SetUpErrors.{set_up_error_number}
use Rattle.record.specs.declared.types.Setting.{Setting}
use Rattle.record.specs.declared.types.Setting.TheVariants.{Name, Maker, Model, Other, Password, Inputs, Lamps, WarmUp}
use Rattle.record.specs.declared.types.Setting.TheVariants.{Cooling, Serial, Version, Names}
use Rattle.words.proofs.TextsTold.{name_long, info_long, password_long}
use Rattle.record.proofs.Rules.{inputs_some, inputs_few, are_pairs-is_new_input, lamps_few}
use Rattle.record.proofs.Rules.{only_in_2_within, names_many, names_each, text_most}
use Rattle.record.proofs.NamesTold.{names_kept_lem}
use Rattle.record.proofs.Places.{pairs_even}
use Rattle.record.proofs.Kept.{filled_kept}
use Rattle.record.specs.declared.views.Power.TheVariants.{Off}
use Rattle.record.proofs.PowerSeen.{written}
use Rattle.record.proofs.FactsTold.{own_is, settings_is, stretch_is}
use Rattle.record.proofs.MarksTold.{all_marks_legal}
use Rattle.record.proofs.ConnectionsTold.{all_closed_legal, all_closed_at}
use Rattle.record.proofs.LegalTold.{legal_by_parts, settings_of_legal}
use Rattle.record.proofs.SettingsTold.{input_count_low}
use Rattle.record.proofs.Calls.{set_up_long, set_up_by}
use Rattle.record.proofs.OutOfRange.{each_in_range}

-- it has no input
pub blank_illegal : is_legal blank ≡ false
unfolding blank
blank_illegal =
    by_not (is_legal blank) (λ h. omega (arith, input_count_low blank.settings (settings_of_legal blank h)))

-- inputs come in pairs
pub inputs_halved : (k : ℕ) (s : List ℕ) → is_inputs k s ≡ true → 2 * (length s / 2) ≡ length s
inputs_halved k s h =
    let most =
    pairs_even (is_new_input k) s (are_pairs-is_new_input k s h) (length s / 2) (omega arith) (omega arith) in
    omega arith

module _ (w : Wanted) where
  module _ (h : is_set_up w ≡ true) where
    met : (s : Setting) → is_setting_in_range w s ≡ true
    met = each_in_range w h

    info_kept : (s : List ℕ) → is_info s ≡ true → Fills text_room is_info (in_room text_room s) (length s)
    info_kept s t = filled_kept text_room is_info s (omega (arith, info_long s t)) t

    -- of Class 2 alone
    info_in_2_kept : (s : List ℕ) → is_text (only_in_2 w.class info_most) s ≡ true
        → Fills text_room (is_text (only_in_2 w.class info_most)) (in_room text_room s) (length s)
    info_in_2_kept s t =
        filled_kept text_room (is_text (only_in_2 w.class info_most)) s
        (omega (arith, text_most s _ t, only_in_2_within w.class info_most)) t

    named : IsNames (only_in_2 w.class (length w.inputs / 2)) (names_kept w.names)
    named =
        let many = names_many _ w.names (met Names) in
        let few = inputs_few _ w.inputs (met Inputs) in
        subst (λ (n : ℕ). IsNames n (names_kept w.names)) many
        (names_kept_lem w.names (omega (arith, only_in_2_within w.class (length w.inputs / 2)))
        (names_each _ w.names (met Names)))

    is_settings-settings_of : is_settings (settings_of w) ≡ true
    is_settings-settings_of = (settings_is (settings_of w)).1 (record {
      name = filled_kept text_room is_name w.name (name_long w.name (met Name)) (met Name);
      maker = info_kept w.maker (met Maker);
      model = info_kept w.model (met Model);
      other = info_kept w.other (met Other);
      password =
          filled_kept text_room is_password w.password (omega (arith, password_long w.password (met Password)))
          (met Password);
      is_long_enough = set_up_long w h;
      inputs =
          subst (Fills input_room (is_inputs w.class) (in_room input_room w.inputs))
          (sym (inputs_halved _ w.inputs (met Inputs)))
          (filled_kept input_room (is_inputs w.class) w.inputs (inputs_few _ w.inputs (met Inputs)) (met Inputs));
      lamps = lamps_few w.lamps (met Lamps);
      warm = (stretch_is w.warm).0 (met WarmUp);
      cool = (stretch_is w.cool).0 (met Cooling);
      serial = info_in_2_kept w.serial (met Serial);
      version = info_in_2_kept w.version (met Version);
      names = named;
    })

    own_legal : is_own (settings_of w) (start_own w.lamps) ≡ true
    unfolding is_error_list
    own_legal = (own_is _ (start_own w.lamps)).1 (record {
      errors = refl;
      lamps = filled_kept lamps_most is_lamps w.lamps (lamps_few w.lamps (met Lamps)) (met Lamps);
      marks = all_marks_legal (length w.lamps) (lamps_few w.lamps (met Lamps));
      power = written w.warm w.cool Off tt;
      chosen = omega (arith, inputs_some _ w.inputs (met Inputs));
      speaker = omega arith;
      microphone = omega arith;
      video_muted = omega arith;
      audio_muted = omega arith;
      fault = omega arith;
      frozen = omega arith;
    })

    pub started_legal : is_legal (start_device w) ≡ true
    unfolding start_device
    started_legal = legal_by_parts (start_device w) is_settings-settings_of own_legal all_closed_legal

  -- the lamps' starting seconds, place by place
  pub started_lamp : (k : ℕ) → k < length w.lamps →
      slice_index_or (start_device w).own.lamps k 0 ≡ slice_index_or w.lamps k 0
  unfolding start_device in_room
  started_lamp k l = get_or-append w.lamps (zeros (lamps_most - length w.lamps)) 0 k l

  -- each lamp is enabled (RULES, Lamps)
  pub started_marks : (start_device w).own.enabled ≡ all_marks (length w.lamps)
  unfolding start_device
  started_marks = refl

  -- the started device, part by part
  pub started_parts : start_device w
      ≡ record { settings = settings_of w; own = start_own w.lamps; connections = all_closed }
  unfolding start_device
  started_parts = refl

  -- at each place there is the closed connection
  pub connection_at-start_device : (p : ℕ) → p < places_count → connection_at (start_device w) p ≡ closed
  unfolding start_device
  connection_at-start_device p there = all_closed_at p there

  -- an accepted set-up is legal, and gives the started device
  pub set_up_legal : call_number set_up_error_number (set_up w) ≡ 0 → is_legal (set_up w).leaves ≡ true
  set_up_legal =
      set_up_by w (λ r. call_number set_up_error_number r ≡ 0 → is_legal r.leaves ≡ true)
      (λ s e. absurd (omega arith)) (λ e. absurd (omega arith)) (λ h e. started_legal h)

  pub set_up_started : call_number set_up_error_number (set_up w) ≡ 0 → (set_up w).leaves ≡ start_device w
  set_up_started =
      set_up_by w (λ r. call_number set_up_error_number r ≡ 0 → r.leaves ≡ start_device w)
      (λ s e. absurd (omega arith)) (λ e. absurd (omega arith)) (λ h e. refl)
