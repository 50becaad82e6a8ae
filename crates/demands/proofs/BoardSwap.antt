-- Settings survive a board swap (RULES, Stored form): it holds of our board.
-- Assumes nothing.
use Rattle.std.proofs.Common.{ℕ, ◌+◌, ◌<◌, ◌≡◌, refl, sym, ap, subst, ◌∙◌, Bool, true, false, List, [], ◌∷◌, arith}
use Rattle.std.proofs.Common.{length, slice_index_or, get_or-take, length-take-le, ext_get_or}
use Rattle.record.specs.Views.{marks_seen}
use Rattle.text.proofs.FlagsTold.{raised_many}
use Rattle.words.specs.Bytes.{◌at◌}
use Rattle.record.specs.Wanted.{Wanted}
use Rattle.record.specs.Legal.{is_legal}
use Rattle.record.specs.declared.types.Settings.{Settings}
use Rattle.record.specs.declared.types.Device.{Device}
use Rattle.record.proofs.LegalTold.{own_of_legal}
use Rattle.record.proofs.MarksTold.{marks_long}
use Rattle.record.proofs.Calls.{set_up_accepted}
use Rattle.record.proofs.Started.{started_parts}
use Rattle.stored.specs.Form.{form_version, marked_form_of, old_form_of, stored_of, marks_stored, stored_form}
use Rattle.stored.specs.Form.{stored_by}
use Rattle.stored.proofs.Results.{StoredTold, stored_told, accepted_set_up, older_is_class_1}
use Rattle.stored.specs.Loading.{started_with, loaded_from}
use Rattle.stored.specs.Told.{load_error_number}
use Rattle.stored.proofs.FormsLoad.{stored_in_range, stored_loads as form-again, marked_form_loads, marked_form_marks}
use Rattle.stored.proofs.FormsLoad.{old_form_loads}
use Rattle.stored.proofs.Fields.{bytes_all}
use Rattle.stored.proofs.OneForm.{stored_again, forms_apart}
use Rattle.text.specs.Outcomes.{CallResult, served_as, call_number}
use Rattle.record.specs.Refusals.{refusal_number}
use Rattle.record.specs.declared.refusal.Refusal.{Refusal}
use Rattle.ours.specs.Board.{ours, bytes_written, wrote_in}
use Rattle.demands.specs.Calls.{Call, run}
use Rattle.demands.specs.History.{HistoryEvent, Stage, steady, next_stage, marks_next, no_streams, history, marks_after}
use Rattle.demands.specs.History.{burning_from, burning_seconds, stage_after, lamp_with}
use Rattle.demands.specs.CountsSeconds.{Beginning, loads, IsClass1, start_marks, IsAccepted, run_of, history_of}
use Rattle.demands.specs.BoardSwap.{LoadsAs, BoardSwap}
use Rattle.demands.proofs.KeepsRunning.{wrote_number, over_front}
use Rattle.demands.proofs.Agrees.{Agrees}
use Rattle.demands.proofs.HistoryTold.{history_told}

-- burnt on the one board, then on the other
lamp_goes_on : (m n start : ℕ) → lamp_with n (lamp_with m start) ≡ lamp_with (m + n) start
lamp_goes_on m n start = omega arith

-- of the settings, a history's clock knows W and C alone
module _ (v w : Wanted) (warm : v.warm ≡ w.warm) (cool : v.cool ≡ w.cool) where
  burning_alike : (g : Stage) (ms : List Bool) (k : ℕ) (es : List HistoryEvent) → burning_from v g ms k es
      ≡ burning_from w g ms k es
  burning_alike g ms k [] = refl
  burning_alike g ms k (e ∷ es) = grind (arith, burning_alike (next_stage w g e) (marks_next ms e) k es)

module _ (d : Device) (m : List ℕ) (h : (ours.store d m).number ≡ 0) where
  told : StoredTold d (length m) (stored_by d (length m))
  told = stored_told d (length m) (sym (wrote_number refusal_number (stored_by d (length m)) m) ∙ h)

  form_stored : bytes_written (ours.store d m) ≡ stored_form d
  form_stored =
      ap (λ (r : CallResult Refusal (Unit {0}) (Unit {0})). bytes_written (wrote_in refusal_number r m))
      told.form
      ∙ over_front (stored_form d) m

  loads_again : loaded_from (stored_form d) ≡ served_as tt [] (started_with (stored_of d) (marks_stored d))
  loads_again = form-again d told.legal

  stored_loads : LoadsAs ours (bytes_written (ours.store d m)) (stored_of d) (marks_stored d)
  stored_loads = grind (arith, form_stored, loads_again)

module _ (b : Beginning) (w : Wanted) (cs es : List Call) (m : List ℕ) (place : ℕ) (h : IsAccepted ours b w)
    (inside : place < length w.lamps) (stored : (ours.store (run_of ours b w cs) m).number ≡ 0) where
  abbrev old : Device
  old = run_of ours b w cs

  abbrev kept : Wanted
  kept = stored_of old

  -- what was known on the old board
  abbrev es_old : List HistoryEvent
  es_old = history_of ours b w cs

  known : Agrees w (stage_after w es_old) (marks_after (start_marks b w) es_old)
      (λ k. burning_seconds w (start_marks b w) k es_old)
      (history_told b w cs h).0 old
  known = (history_told b w cs h).1

  legal : is_legal old ≡ true
  legal = (told old m stored).legal

  count : old.settings.lamp_count ≡ length w.lamps
  count = ap (λ (s : Settings). s.lamp_count) known.settings

  kept_lamp : slice_index_or kept.lamps place 0 ≡ slice_index_or old.own.lamps place 0
  kept_lamp = get_or-take old.settings.lamp_count old.own.lamps place 0 (omega (arith, count))

  kept_many : place < length kept.lamps
  kept_many =
      let held = (own_of_legal old legal).lamps in
      omega (
        arith,
        count,
        held.long,
        held.inside,
        length-take-le old.settings.lamp_count old.own.lamps (omega (arith, held.long, held.inside)),
      )

  -- the marks that are stored are those of the history
  kept_marks : marks_stored old ≡ marks_after (start_marks b w) es_old
  kept_marks =
      let own = own_of_legal old legal in
      let long = marks_long old.settings.lamp_count old.own.enabled own.marks in
      let many : length (marks_stored old) ≡ length w.lamps
      = length-take-le old.settings.lamp_count (marks_seen old.own)
      (omega (arith, long, raised_many old.own.enabled, own.lamps.inside))
      ∙ count in
      ext_get_or false _ _ (many ∙ sym known.marks_long)
      (λ k inside.
      get_or-take old.settings.lamp_count (marks_seen old.own) k false (omega (arith, many, count))
      ∙ known.marks k (omega (arith, many)))

  abbrev GoesOn : List ℕ → Type 0
  GoesOn form =
      let new = (ours.load form).device in
      slice_index_or (run ours new es).own.lamps place 0
      ≡ lamp_with
      (burning_seconds w (start_marks b w) place es_old
      + burning_seconds w (marks_after (start_marks b w) es_old) place (history ours new no_streams es))
      (slice_index_or w.lamps place 0)

  on_the_new : GoesOn (stored_form old)
  on_the_new =
      let accepted_so : IsAccepted ours (loads (marks_stored old)) kept
      = (stored_in_range old legal, ap (call_number load_error_number) (loads_again old m stored)) in
      let more = history_of ours (loads (marks_stored old)) kept es in
      let alike = burning_alike kept w (ap (λ (s : Settings). s.warm) known.settings)
      (ap (λ (s : Settings). s.cool) known.settings) (steady false) (marks_stored old) place more in
      let same = alike ∙ ap (λ (ms : List Bool). burning_seconds w ms place more) kept_marks in
      (history_told (loads (marks_stored old)) kept es accepted_so).1.lamps place kept_many
      ∙ (λ i. lamp_with (same i) ((kept_lamp ∙ known.lamps place inside) i))
      ∙ lamp_goes_on (burning_seconds w (start_marks b w) place es_old)
      (burning_seconds w (marks_after (start_marks b w) es_old) place more) (slice_index_or w.lamps place 0)

  hours_go_on : GoesOn (bytes_written (ours.store old m))
  hours_go_on = subst GoesOn (sym (form_stored old m stored)) on_the_new

-- ---- older versions (RULES, Class 2)

marked_loads : (w : Wanted) (ms : List Bool) → IsClass1 w → (ours.load (marked_form_of w ms)).number ≡ 0
    → LoadsAs ours (marked_form_of w ms) w ms
marked_loads w ms h e = grind (arith, marked_form_marks, marked_form_loads)

old_sets_up : (w : Wanted) → IsClass1 w → ours.load (old_form_of w) ≡ ours.set_up w
old_sets_up w h = grind (arith, old_form_loads, set_up_accepted)

older_loads : (s : List ℕ) → (ours.load s).number ≡ 0 → (s at 0 ≡ form_version → ⊥)
    → (ours.load s).device.settings.class_number ≡ 1
older_loads s e other = grind (arith, accepted_set_up, started_parts, older_is_class_1)

pub ours_swap : BoardSwap ours
ours_swap = record {
  form_stored = form_stored;
  stored_loads = stored_loads;
  old_form_sets_up = old_sets_up;
  marked_form_loads = marked_loads;
  older_class_1 = older_loads;
  stored_again = λ s b new h. stored_again s h (bytes_all s b) new;
  one_form = λ s t a b g h v e. forms_apart s t (bytes_all s a) (bytes_all t b) g h v e;
  hours_go_on = hours_go_on;
}
