-- What is written of a log that a host recorded tells the history of the host's calls.
-- Assumes nothing.
use Rattle.std.proofs.Common.{ℕ, ◌+◌, ◌≤◌, ◌<◌, ◌^◌, ◌≡◌, refl, sym, subst, ap, ◌∙◌, Bool, true, false, List, []}
use Rattle.std.proofs.Common.{◌∷◌, ◌++◌, arith, length, take, map, append-nil}
use Rattle.std.proofs.Common.{min, Option, Some, None, option_map, ◌==◌}
use Rattle.text.proofs.Choices.{if_yes, if_no}
use Rattle.record.specs.Wanted.{Wanted}
use Rattle.record.specs.declared.types.Device.{Device}
use Rattle.record.proofs.LegalTold.{settings_of_legal}
use Rattle.ours.specs.Board.{ours}
use Rattle.demands.specs.Calls.{Call}
use Rattle.demands.specs.CountsSeconds.{Beginning, IsAccepted, begun_by, history_of}
use Rattle.demands.proofs.CountsSeconds.{ours_counts_seconds}
use Rattle.demands.proofs.HistoryTold.{begun_agrees}
use Rattle.textio.specs.Lines.{LogLine, last_line, lines_ended, cut_end}
use Rattle.floorlog.specs.Kept.{kept_most, kept, kept_lines}
use Rattle.floorlog.proofs.ShortLines.{short_kept}
use Rattle.history.specs.Entries.{LogEntry}
use Rattle.recorded.specs.Recorded.{recorded}
use Rattle.recorded.specs.Chain.{Followed, followed}
use Rattle.recorded.specs.Following.{chain_begun, belonging, FirstStray, stray_from, stray_text}
use Rattle.recorded.specs.Hosts.{HostStep, host_log, step_calls, host_left, AreKept, AreTypedSteps}
use Rattle.recorded.proofs.Believed.{believed, front_believed}
use Rattle.recorded.proofs.Followed.{belonging_none, stray_none, line_unended, belonging_stray, stray_here}
use Rattle.recorded.proofs.FollowedSays.{Says, followed_says}
use Rattle.recorded.proofs.HostsEnd.{host_log_ends}
use Rattle.watch.specs.CallSteps.{entry_steps}
use Rattle.watch.specs.Watching.{watching_from, burnt_by}
use Rattle.watch.specs.Telling.{lit_stretches, after_log}
use Rattle.stretches.specs.LogTold.{StepsTold}
use Rattle.stretches.proofs.CallsTell.{is_legal-begun_by}
use Rattle.stretches.proofs.WholeLogTold.{entries_watched}
use Rattle.report.specs.Reports.{ended_until}
use Rattle.report.specs.declared.Report.{Report}
use Rattle.burnt.specs.Told.{tellings_text, report_after, told_from}
use Rattle.burnt.specs.ChainTold.{chain_ended, chain_told, chain_stray, chain_seconds}
use Rattle.burnt.specs.HistoryTold.{HistoryTold, IsCutLine, HostTold}

-- ---- the lines of such a log

-- what stands behind the last LF
data CutEnd (tail : List LogLine) : Type 0 where
  nothing : tail ≡ [] → CutEnd tail
  a_part : (l : LogLine) → l.ended ≡ false → tail ≡ l ∷ [] → CutEnd tail

cut_tail : (c : List ℕ) → CutEnd (map kept (last_line c))
cut_tail c = by (length c == 0) refl
  where
    by : (t : Bool) → (length c == 0) ≡ t → CutEnd (map kept (last_line c))
    by true e = nothing (ap (map kept) (if_yes _ _ e))
    by false e = a_part (record { text = take kept_most c; ended = false }) refl (ap (map kept) (if_no _ _ e))

-- ---- where all that LF ends belongs

module _ (d : Device) (sum : ℕ) (log : List ℕ) (f : Followed)
    (h : followed (chain_begun sum) d (lines_ended [] log) ≡ Some f) where
  abbrev ls : List (List ℕ)
  ls = lines_ended [] log

  says : Says (chain_begun sum) d ls f
  says = followed_says ls (chain_begun sum) d f h

  abbrev more : List LogLine
  more = map kept (last_line (cut_end [] log))

  none_more : belonging f.log f.device more ≡ []
  none_more =
      elim (cut_tail (cut_end [] log)) [
        | nothing e ↦ ap (belonging f.log f.device) e ∙ belonging_none f.log f.device
        | a_part l cut e ↦
            ap (belonging f.log f.device) e
            ∙ belonging_stray f.log f.device l [] (line_unended f.log f.device l cut)
      ]

  stray_more : (n : ℕ) → IsCutLine (stray_from n f.log f.device more)
  stray_more n =
      elim (cut_tail (cut_end [] log)) [
        | nothing e ↦
            subst IsCutLine (sym (ap (stray_from n f.log f.device) e ∙ stray_none f.log f.device n)) tt
        | a_part l cut e ↦
            subst IsCutLine (sym (ap (stray_from n f.log f.device) e
            ∙ stray_here f.log f.device l [] n (line_unended f.log f.device l cut))) refl
      ]

  all_belong : belonging (chain_begun sum) d (kept_lines log) ≡ says.es
  all_belong =
      ap (belonging (chain_begun sum) d) (short_kept log says.short)
      ∙ says.belong more
      ∙ ap (λ (es : List LogEntry). says.es ++ es) none_more
      ∙ append-nil says.es

  stray_is : chain_stray d sum log ≡ stray_from (0 + length ls) f.log f.device more
  stray_is =
      ap (stray_from 0 (chain_begun sum) d) (short_kept log says.short) ∙ says.stray 0 more

  cut_line : IsCutLine (chain_stray d sum log)
  cut_line = subst IsCutLine (sym stray_is) (stray_more (0 + length ls))

  no_stray : cut_end [] log ≡ [] → chain_stray d sum log ≡ None
  no_stray whole =
      stray_is ∙ ap (λ (c : List ℕ). stray_from (0 + length ls) f.log f.device (map kept (last_line c))) whole
      ∙ stray_none f.log f.device (0 + length ls)

  seconds_are : chain_seconds d sum log ≡ (after_log (watching_from d) (entry_steps d says.es)).time
  seconds_are = (λ i. (after_log (watching_from d) (entry_steps d (all_belong i))).time)

  told_is : (head : List ℕ) (way : Report) → chain_told d sum head way log ≡ head
      ++ told_from (chain_ended d.own.lamps (0 + length says.es) (chain_stray d sum log)) way
      (watching_from d) (entry_steps d says.es)
  told_is head way =
      (λ i. head
      ++ told_from (chain_ended d.own.lamps (0 + length (all_belong i)) (chain_stray d sum log)) way
      (watching_from d) (entry_steps d (all_belong i)))

-- ---- and tells the history

module _ (b : Beginning) (w : Wanted) (h : IsAccepted ours b w) (sum : ℕ) where
  abbrev d : Device
  d = (begun_by ours b w).device

  history_told : (log : List ℕ) (cs : List Call) (f : Followed) → f.calls ≡ recorded d cs
      → followed (chain_begun sum) d (lines_ended [] log) ≡ Some f
      → HistoryTold b w (history_of ours b w cs) (chain_seconds d sum log) (chain_stray d sum log)
      (λ head way. chain_told d sum head way log)
  history_told log cs f calls all =
      let s = says d sum log f all in
      let es = entry_steps d s.es in
      let end = after_log (watching_from d) es in
      let t : StepsTold b w (history_of ours b w cs) es = entries_watched b w h cs s.es (s.calls ∙ calls) in
      let few = (settings_of_legal d (is_legal-begun_by w b h)).lamps in
      let counted = ap (λ s. s.lamp_count) (begun_agrees b w h).settings in
      let eight : length w.lamps ≤ 8 = omega (arith, counted, few) in
      let count : min end.device.settings.lamp_count 8 ≡ length w.lamps
      = ap (λ (n : ℕ). min n 8) t.count ∙ omega (arith, eight) in
      record {
        told = lit_stretches (watching_from d) es;
        lines = 0 + length s.es;
        starts = d.own.lamps;
        burnt = burnt_by end;
        lasts = end.device.own.lamps;
        written = λ head way. told_is d sum log f all head way
            ∙ (λ i. head
            ++ (tellings_text way (lit_stretches (watching_from d) es)
            ++ ended_until (report_after way (lit_stretches (watching_from d) es))
            (sym (seconds_are d sum log f all) i) (count i)
            d.own.lamps (burnt_by end) end.device.own.lamps (0 + length s.es)
            (option_map stray_text (chain_stray d sum log))));
        stretches = t.stretches;
        start = λ k inside. ours_counts_seconds.lamps_tell_the_history b w [] k h inside;
        burns = t.burnt;
        now = t.lamps;
      }

  module _ (small : sum < 2 ^ 32) (ss : List (HostStep × ℕ)) (typed : AreTypedSteps ss)
      (kept_all : AreKept (chain_begun sum) d ss) where
    abbrev whole_log : List ℕ
    whole_log = host_log (chain_begun sum) d ss

    all_followed : followed (chain_begun sum) d (lines_ended [] whole_log) ≡ Some (host_left (chain_begun sum) d ss)
    all_followed = (believed (chain_begun sum) d ss (omega arith) small typed kept_all).0

    none_stray : chain_stray d sum whole_log ≡ None
    none_stray =
        no_stray d sum whole_log (host_left (chain_begun sum) d ss) all_followed
        (host_log_ends ss (chain_begun sum) d)

    pub host_told : HostTold b w sum ss
    host_told = record {
      whole = (
        none_stray,
        subst (λ (x : Option FirstStray). HistoryTold b w (history_of ours b w (step_calls ss))
            (chain_seconds d sum whole_log) x (λ head way. chain_told d sum head way whole_log)) none_stray
            (history_told whole_log (step_calls ss) (host_left (chain_begun sum) d ss) refl all_followed),
      );
      cut = λ n. of_front n;
    }
      where
        of_front : (n : ℕ) → let log = take n whole_log in
            (k : ℕ) × (k ≤ length ss) × IsCutLine (chain_stray d sum log)
            × HistoryTold b w (history_of ours b w (step_calls (take k ss))) (chain_seconds d sum log)
            (chain_stray d sum log) (λ head way. chain_told d sum head way log)
        of_front n =
            let log = take n whole_log in
            let (k, few, front, plays) = front_believed (chain_begun sum) d ss (omega arith) small typed kept_all n in (
              k,
              few,
              cut_line d sum log (host_left (chain_begun sum) d (take k ss)) front,
              history_told log (step_calls (take k ss)) (host_left (chain_begun sum) d (take k ss)) refl front,
            )
