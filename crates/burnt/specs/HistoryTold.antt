-- What `burnt` writes of a log that a host recorded, beside demand 3's history of the calls that the host made (RULES,
-- History of a board).
--   HistoryTold b w hs seconds stray t    the text t tells the history hs of so many seconds, after any text that comes
--                                 first, and as any report has it, a part of a page as another: stretches as they end,
--                                 and then each lamp's seconds at the start, burnt and now; until when it goes, on a
--                                 page; and a line that does not belong, if one does not
--   HostsTold                     that is so of all that a host writes, however its board began: each line belongs;
--                                 and of
--                                 what is left of it, cut at any byte, for a front of what the host did: then no more
--                                 than
--                                 the last line does not belong, for want of its LF
-- Assumes nothing.
use Rattle.std.specs.Prelude.{ℕ, ◌≤◌, ◌<◌, ◌^◌, ◌≡◌, List, ◌++◌, length, take, slice_index_or}
use Rattle.std.specs.Prelude.{Option, Some, None, option_map}
use Rattle.record.specs.Wanted.{Wanted}
use Rattle.ours.specs.Board.{ours}
use Rattle.demands.specs.CountsSeconds.{Beginning, IsAccepted, start_marks, begun_by, history_of}
use Rattle.demands.specs.History.{HistoryEvent, burning_seconds, lamp_with}
use Rattle.recorded.specs.Chain.{unended}
use Rattle.recorded.specs.Following.{chain_begun, FirstStray, stray_text}
use Rattle.recorded.specs.Hosts.{HostStep, host_log, step_calls, AreKept, AreTypedSteps}
use Rattle.watch.specs.Telling.{LitStretch}
use Rattle.stretches.specs.LogTold.{stretches_in}
use Rattle.stretches.specs.Stretches.{StretchesTell}
use Rattle.report.specs.Reports.{ended_until}
use Rattle.report.specs.declared.Report.{Report}
use Rattle.burnt.specs.Told.{tellings_text, report_after}
use Rattle.burnt.specs.ChainTold.{chain_told, chain_stray, chain_seconds}

pub record HistoryTold (b : Beginning) (w : Wanted) (hs : List HistoryEvent) (seconds : ℕ) (stray : Option FirstStray)
    (text : List ℕ → Report → List ℕ) : Type 0 where
  pub told : List LitStretch
  pub lines : ℕ
  pub starts : List ℕ
  pub burnt : List ℕ
  pub lasts : List ℕ
  pub written : (head : List ℕ) (way : Report) → text head way ≡ head ++ (tellings_text way told
      ++ ended_until (report_after way told) seconds (length w.lamps) starts burnt lasts lines
      (option_map stray_text stray))
  -- of each lamp its stretches in the history
  pub stretches : (k : ℕ) → k < length w.lamps → StretchesTell w (start_marks b w) k hs (stretches_in k told)
  -- its seconds at the start, which are those of the settings
  pub start : (k : ℕ) → k < length w.lamps → slice_index_or starts k 0 ≡ lamp_with 0 (slice_index_or w.lamps k 0)
  -- those that it burnt, and what it has now
  pub burns : (k : ℕ) → k < length w.lamps → slice_index_or burnt k 0 ≡ burning_seconds w (start_marks b w) k hs
  pub now : (k : ℕ) → k < length w.lamps
      → slice_index_or lasts k 0
      ≡ lamp_with (burning_seconds w (start_marks b w) k hs) (slice_index_or w.lamps k 0)

abbrev pub IsCutLine : Option FirstStray → Type 0
IsCutLine None = Unit {0}
IsCutLine (Some s) = s.why ≡ unended

pub record HostTold (b : Beginning) (w : Wanted) (sum : ℕ) (ss : List (HostStep × ℕ)) : Type 0 where
  pub whole : let d = (begun_by ours b w).device in
      let log = host_log (chain_begun sum) d ss in
      (chain_stray d sum log ≡ None)
      × HistoryTold b w (history_of ours b w (step_calls ss)) (chain_seconds d sum log) None
      (λ head way. chain_told d sum head way log)
  pub cut : let d = (begun_by ours b w).device in
      (n : ℕ) → let log = take n (host_log (chain_begun sum) d ss) in
      (k : ℕ) × (k ≤ length ss) × IsCutLine (chain_stray d sum log)
      × HistoryTold b w (history_of ours b w (step_calls (take k ss))) (chain_seconds d sum log)
      (chain_stray d sum log) (λ head way. chain_told d sum head way log)

abbrev pub HostsTold : Type 0
HostsTold = (b : Beginning) (w : Wanted) → IsAccepted ours b w → (sum : ℕ) → sum < 2 ^ 32
    → (ss : List (HostStep × ℕ)) → AreTypedSteps ss
    → AreKept (chain_begun sum) (begun_by ours b w).device ss → HostTold b w sum ss
