-- What a watched log tells of a lamp is its stretches of demand 3's history of the calls that its steps make.
-- Assumes nothing.
use Rattle.std.proofs.Common.{ℕ, ◌≤◌, ◌<◌, ◌≡◌, sym, ap, subst, ◌∙◌, Bool, true, not, ◌&&◌, List, [], ◌∷◌}
use Rattle.std.proofs.Common.{◌++◌, arith, length, nat_lt}
use Rattle.record.specs.Limits.{is_lit}
use Rattle.record.specs.Legal.{is_legal}
use Rattle.record.specs.Wanted.{Wanted}
use Rattle.record.specs.declared.types.Device.{Device}
use Rattle.record.proofs.Calls.{set_up_in_range}
use Rattle.record.proofs.Started.{started_legal, set_up_started}
use Rattle.stored.proofs.Results.{accepted_legal}
use Rattle.ours.specs.Board.{ours}
use Rattle.demands.specs.Calls.{Call}
use Rattle.demands.specs.History.{HistoryEvent, Streams, history, Stage, is_burning_stage, stage_from, marks_after}
use Rattle.demands.specs.History.{streams_after, seen}
use Rattle.demands.specs.CountsSeconds.{Beginning, start_marks, begun_by, IsAccepted, history_of}
use Rattle.demands.proofs.Agrees.{Agrees, lit_shown, Then}
use Rattle.demands.proofs.HistoryTold.{noted, begun_agrees}
use Rattle.demands.proofs.KeepsRunning.{stays_legal}
use Rattle.watch.specs.CallSteps.{call_step, call_steps}
use Rattle.watch.specs.Watching.{Step, Watching, watching_from, is_burning_in, watched_on}
use Rattle.stretches.specs.Stretches.{Stretch, stretch_if, is_lit_then, seconds_lit_from}
use Rattle.stretches.specs.Stretches.{StretchesTell}
use Rattle.stretches.specs.LogTold.{is_marked_in, told_of}
use Rattle.stretches.proofs.Joined.{joined}
use Rattle.stretches.proofs.CallsSeen.{Seen, seen_of_call}
use Rattle.stretches.proofs.Told.{stretches_tell}
use Rattle.stretches.proofs.ToldSpelt.{told_none, told_more}
use Rattle.stretches.proofs.StepTells.{one_is, by_seen}

-- ---- any calls

module _ (w : Wanted) (k : ℕ) (inside : k < length w.lamps) where
  burning_known : {g : Stage} {ms : List Bool} {n : ℕ → ℕ} {stream : Streams} {d : Device}
      → Agrees w g ms n stream d → is_burning_in d ≡ is_burning_stage g
  burning_known {g} a = ap is_lit a.power ∙ lit_shown g

  -- the state of the watch, told by the outsider's clock and marks
  step_told : (s : Watching) (e : Step) {g : Stage} {ms : List Bool} {n : ℕ → ℕ} {stream now : Streams}
      (xs ys : List HistoryEvent) → Agrees w g ms n stream s.device → Then w g ms n xs now e.device
      → Seen g e.seconds xs → s.from ≤ s.time
      → let t = watched_on s e in
      stretch_if (is_burning_in s.device && not (is_burning_in t.device) && is_marked_in t.device k
      && nat_lt t.from t.time)
      t.from t.time
      ++ joined (is_lit_then (stage_from w g xs) (marks_after ms xs) k) t.from t.time
      (seconds_lit_from w (stage_from w g xs) (marks_after ms xs) k ys)
      ≡ joined (is_lit_then g ms k) s.from s.time (seconds_lit_from w g ms k (xs ++ ys))
  step_told s e {g} {ms} xs ys before past sort le =
      grind (
        arith,
        burning_known before,
        burning_known past,
        past.marks k inside,
        by_seen w k g ms e.seconds s.from s.time xs ys le sort,
      )

  from_before : (s : Watching) (e : Step) → s.from ≤ s.time → let t = watched_on s e in t.from ≤ t.time
  from_before s e le = grind arith

  tells : (cs : List Call) (s : Watching) {g : Stage} {ms : List Bool} {n : ℕ → ℕ} {stream : Streams}
      → Agrees w g ms n stream s.device → is_legal s.device ≡ true → s.from ≤ s.time
      → told_of k s (call_steps s.device cs)
      ≡ joined (is_lit_then g ms k) s.from s.time (seconds_lit_from w g ms k (history ours s.device stream cs))
  tells [] s {g} {ms} {n} {stream} a legal le =
      told_none k s ∙ grind (arith, burning_known a, a.marks k inside, one_is)
  tells (c ∷ cs) s {g} {ms} {n} {stream} a legal le =
      let e = call_step s.device c in
      let t = watched_on s e in
      let now = streams_after ours s.device stream c in
      let xs = seen ours s.device now c in
      told_more k s e (call_steps e.device cs)
      ∙ ap (λ (l : List Stretch). stretch_if (is_burning_in s.device && not (is_burning_in t.device)
      && is_marked_in t.device k && nat_lt t.from t.time) t.from t.time ++ l)
      (tells cs t (noted a c) (stays_legal s.device c legal) (from_before s e le))
      ∙ step_told s e xs (history ours e.device now cs) a (noted a c)
      (seen_of_call w g ms n stream s.device a legal c) le

-- ---- from a beginning

pub is_legal-begun_by : (w : Wanted) (b : Beginning) → IsAccepted ours b w → is_legal (begun_by ours b w).device ≡ true
is_legal-begun_by w b h = grind (arith, set_up_started, started_legal, set_up_in_range, accepted_legal)

module _ (b : Beginning) (w : Wanted) (h : IsAccepted ours b w) (k : ℕ) (inside : k < length w.lamps)
    (cs : List Call) where
  abbrev begun : Device
  begun = (begun_by ours b w).device

  -- exactly the seconds that demand 3 counts, in order, apart, none empty, and adding up to what the lamp burnt
  pub call_stretches_tell : StretchesTell w (start_marks b w) k (history_of ours b w cs)
      (told_of k (watching_from begun) (call_steps begun cs))
  call_stretches_tell =
      subst (StretchesTell w (start_marks b w) k (history_of ours b w cs))
      (sym (tells w k inside cs (watching_from begun) (begun_agrees b w h) (is_legal-begun_by w b h) (omega arith)))
      (stretches_tell w (start_marks b w) k (history_of ours b w cs))
