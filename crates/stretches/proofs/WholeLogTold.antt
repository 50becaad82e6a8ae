-- What is told of a whole log is, of each lamp, its stretches in demand 3's history of its calls, what it burnt, and
-- what it has now.
-- Assumes nothing.
use Rattle.std.proofs.Common.{[], ◌∷◌, refl, ℕ, ◌≡◌, sym, ap, subst, ◌∙◌, true, false, List, arith, length}
use Rattle.std.proofs.Common.{slice_index_or, map}
use Rattle.record.specs.Legal.{is_legal}
use Rattle.record.specs.Wanted.{Wanted}
use Rattle.record.specs.declared.types.Device.{Device}
use Rattle.record.specs.declared.types.Settings.{Settings}
use Rattle.record.proofs.LegalTold.{settings_of_legal}
use Rattle.ours.specs.Board.{ours}
use Rattle.demands.specs.Calls.{Call, after, run}
use Rattle.demands.proofs.CallsDo.{settings_stay}
use Rattle.demands.specs.CountsSeconds.{Beginning, start_marks, begun_by, IsAccepted, history_of}
use Rattle.demands.proofs.CountsSeconds.{ours_counts_seconds}
use Rattle.demands.specs.History.{HistoryEvent, no_streams, steady}
use Rattle.demands.proofs.Agrees.{Agrees}
use Rattle.demands.proofs.HistoryTold.{begun_agrees}
use Rattle.history.specs.Calls.{LogCall}
use Rattle.history.specs.Entries.{LogEntry}
use Rattle.recorded.specs.Recorded.{recorded}
use Rattle.recorded.specs.Playing.{played_call, entry_calls}
use Rattle.recorded.proofs.Histories.{history_back}
use Rattle.watch.specs.CallSteps.{entry_steps}
use Rattle.watch.specs.Watching.{Step, Watching, watching_from, burnt_by}
use Rattle.watch.specs.Telling.{LitStretch, floor_events, log_steps}
use Rattle.stretches.specs.Stretches.{StretchesTell}
use Rattle.stretches.specs.LogTold.{calls_of, stretches_in, StepsTold, log_history}
use Rattle.stretches.proofs.StepsOfCalls.{StepsOf, same_told, same_left, calls_leave, entries_are_steps}
use Rattle.stretches.proofs.StepsOfCalls.{events_are_steps}
use Rattle.stretches.proofs.CallsTell.{is_legal-begun_by, call_stretches_tell}
use Rattle.stretches.proofs.BurntAdds.{burnt_told}

-- the settings stay
run_settings : (cs : List Call) (d : Device) → (run ours d cs).settings ≡ d.settings
run_settings [] d = refl
run_settings (c ∷ cs) d = run_settings cs (after ours d c) ∙ settings_stay d c

module _ (b : Beginning) (w : Wanted) (h : IsAccepted ours b w) where
  abbrev begun : Device
  begun = (begun_by ours b w).device

  legal : is_legal begun ≡ true
  legal = is_legal-begun_by w b h

  fresh : Agrees w (steady false) (start_marks b w) (λ j. 0) no_streams begun
  fresh = begun_agrees b w h

  counted : begun.settings.lamp_count ≡ length w.lamps
  counted = ap (λ s. s.lamp_count) fresh.settings

  steps_told : (cs : List Call) {es : List Step} → StepsOf begun es cs → StepsTold b w (history_of ours b w cs) es
  steps_told cs {es} steps =
      let s = watching_from begun in
      let told = same_told s steps in
      let left = same_left s steps in
      record {
        count = ap (λ (t : Watching). t.device.settings.lamp_count) left
            ∙ ap (λ (d : Device). d.settings.lamp_count) (calls_leave cs s)
            ∙ ap (λ (q : Settings). q.lamp_count) (run_settings cs begun)
            ∙ counted;
        stretches = λ k inside.
            subst (λ (ts : List LitStretch). StretchesTell w (start_marks b w) k (history_of ours b w cs)
            (stretches_in k ts)) (sym told)
            (call_stretches_tell b w h k inside cs);
        burnt = λ k inside.
            ap (λ (t : Watching). slice_index_or (burnt_by t) k 0) left
            ∙ burnt_told b w h k inside cs (omega (arith, counted))
            (omega (arith, counted, (settings_of_legal begun legal).lamps));
        lamps = λ k inside.
            ap (λ (t : Watching). slice_index_or t.device.own.lamps k 0) left
            ∙ ap (λ (d : Device). slice_index_or d.own.lamps k 0) (calls_leave cs s)
            ∙ ours_counts_seconds.lamps_tell_the_history b w cs k h inside;
      }

  pub log_watched : (log : List ℕ) → StepsTold b w (log_history b w log) (log_steps begun log)
  log_watched log =
      let es = floor_events log in steps_told (calls_of begun es) (events_are_steps es begun legal)

  pub entries_watched : (cs : List Call) (es : List LogEntry) → entry_calls es ≡ recorded begun cs
      → StepsTold b w (history_of ours b w cs) (entry_steps begun es)
  entries_watched cs es same =
      let made = map played_call (entry_calls es) in
      subst (λ (hs : List HistoryEvent). StepsTold b w hs (entry_steps begun es))
      (ap (λ (ls : List LogCall). history_of ours b w (map played_call ls)) same ∙ history_back begun no_streams cs)
      (steps_told made (entries_are_steps es begun))
