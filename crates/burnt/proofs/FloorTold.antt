-- A log of the first kind told line by line.
-- Assumes nothing.
use Rattle.std.proofs.Common.{ℕ, ◌+◌, ◌^◌, ◌≤◌, ◌≡◌, refl, sym, subst, ap, ◌∙◌, List, [], ◌∷◌, ◌++◌, map, ◌⊎◌, ⊎_elim}
use Rattle.std.proofs.Common.{arith, length, inl, inr, sum_by, Bool}
use Rattle.std.specs.declared.option.Option.{Option}
use Rattle.std.proofs.Common.{Result, Ok, Err, OnOk}
use Rattle.std.proofs.lemmas.List.{length-map}
use Rattle.std.proofs.lemmas.List.Sums.{sum_by-cons}
use Rattle.record.specs.declared.types.Device.{Device}
use Rattle.textio.specs.Fronts.{WritesFront}
use Rattle.textio.specs.Lines.{LogLine, texts_of, lines_of, lines_in, IsTooLong}
use Rattle.textio.proofs.LinesCounted.{lines_fit, too_long_bytes}
use Rattle.textio.proofs.Fronts.{front_more}
use Rattle.floorlog.specs.Kept.{kept, kept_lines}
use Rattle.watch.specs.Marking.{WatchedLogEvent, floor_event, floor_step, floor_steps, done_by, seconds_by}
use Rattle.watch.specs.Marking.{watched_answer}
use Rattle.floorlog.specs.Unplayed.{none_unplayed, why_misread, line_noted, said_line, unplayed_by}
use Rattle.floorlog.specs.declared.unplayed.Unplayed.{Unplayed}
use Rattle.floorlog.proofs.UnplayedBy.{unplayed_none, unplayed_more, said_kept}
use Rattle.watch.specs.Watching.{Step, Watching, watching_from}
use Rattle.watch.specs.Telling.{floor_events, floor_unplayed, lit_stretch_if, told_at_end, after_log}
use Rattle.watch.specs.States.{IsWatched, state_of}
use Rattle.watch.proofs.LinesKept.{floor_events_kept, floor_event_of_front}
use Rattle.watch.proofs.TellingsSpelt.{after_none, seconds_most_lem}
use Rattle.report.specs.declared.Report.{Report}
use Rattle.burnt.specs.Told.{tellings_text, report_after, told_from, told_within, totals_text, log_told, IsUntold}
use Rattle.burnt.specs.declared.telling.Teller.{Teller}
use Rattle.burnt.proofs.TellingsTold.{report_within_none, told_none}
use Rattle.burnt.proofs.LinesTold.{step_left, step_told, step_reported, text_so_far}

module _ (s : Watching) (e : WatchedLogEvent) (es : List WatchedLogEvent) where
  -- the seconds of a line cannot be counted
  pub line_uncounted : 2 ^ 64 ≤ s.time + seconds_by e → 2 ^ 64 ≤ s.time + sum_by seconds_by (e ∷ es)
  line_uncounted h = omega (arith, h, sum_by-cons seconds_by e es)

  module _ {after : Watching} {ended : Bool} (w : IsWatched s (floor_step s.device e) after ended) where
    pub line_counted : 2 ^ 64 ≤ after.time + sum_by seconds_by es → 2 ^ 64 ≤ s.time + sum_by seconds_by (e ∷ es)
    line_counted h = omega (arith, h, sum_by-cons seconds_by e es, ap (λ (x : Watching). x.time) w.state)

    -- the steps that follow begin with the device that the line left
    abbrev steps : List Step
    steps = floor_steps (done_by s.device e) es

    device : after.device ≡ done_by s.device e
    device = ap (λ (x : Watching). x.device) w.state

    same : floor_steps after.device es ≡ steps
    same = ap (λ (d : Device). floor_steps d es) device

    pub line_left : after_log after (floor_steps after.device es) ≡ after_log s (floor_steps s.device (e ∷ es))
    line_left = ap (after_log after) same ∙ step_left w steps

    module _ (r : Report) where
      pub line_told : (end : Report → Watching → List ℕ) {then : Report}
          → then ≡ report_after r (lit_stretch_if ended after)
          → told_from end r s (floor_steps s.device (e ∷ es))
          ≡ tellings_text r (lit_stretch_if ended after) ++ told_from end then after (floor_steps after.device es)
      line_told end {then} told =
          step_told w steps r told end
          ∙ ap (λ (l : List Step). tellings_text r (lit_stretch_if ended after)
          ++ told_from end then after l) (sym same)

      pub line_reported : {then last : Report} → then ≡ report_after r (lit_stretch_if ended after)
          → last ≡ report_after then (told_within after (floor_steps after.device es))
          → last ≡ report_after r (told_within s (floor_steps s.device (e ∷ es)))
      line_reported {then} told h =
          step_reported w steps r told
          (h ∙ ap (λ (l : List Step). report_after then (told_within after l)) same)

      -- only some of what ended with it could be told
      pub line_cut : (end : Report → Watching → List ℕ) {old new : Option (List ℕ)}
          → WritesFront old new (tellings_text r (lit_stretch_if ended after))
          → WritesFront old new (told_from end r s (floor_steps s.device (e ∷ es)))
      line_cut end {old} {new} f =
          subst (WritesFront old new) (sym (line_told end refl)) (front_more old new _ _ f)

-- a log that cannot be told has as many bytes
pub untold_bytes : (log : List ℕ) → IsUntold log → 2 ^ 32 ≤ length log
untold_bytes log h =
    ⊎_elim (λ (e : IsTooLong log). omega (arith, too_long_bytes log e))
    (λ (e : 2 ^ 64 ≤ sum_by seconds_by (floor_events log)).
    omega (arith, e, seconds_most_lem (lines_of log), lines_fit log)) h

-- from the start of a log on
pub untold : {t n : ℕ} → t ≡ 0 → n ≡ 0 → (log : List ℕ)
    → IsTooLong log ⊎ ((2 ^ 64 ≤ t + sum_by seconds_by (map floor_event (texts_of (kept_lines log))))
    ⊎ (2 ^ 64 ≤ n + length (kept_lines log)))
    → IsUntold log
untold first none log (inl e) = inl e
untold first none log (inr (inl e)) = inr (omega (arith, e, first, ap (sum_by seconds_by) (floor_events_kept log)))
untold first none log (inr (inr e)) =
    inl (inl (omega (
      arith,
      e,
      none,
      length-map (lines_in log) kept,
      length-map (lines_in log) (λ (l : LogLine). l.text),
    )))

-- what is not played, when these lines have come
abbrev pub unplayed_then : Teller → List LogLine → Unplayed
unplayed_then t ls =
    unplayed_by watched_answer done_by t.unplayed t.lines t.watch.tested.device
    (map (said_line floor_event) (texts_of ls))

abbrev pub teller_told : Teller → List LogLine → List ℕ
teller_told t ls =
    told_from (totals_text t.starts (unplayed_then t ls)) t.report (state_of t.watch)
    (floor_steps t.watch.tested.device (map floor_event (texts_of ls)))

abbrev pub TellerLeft : Teller → List LogLine → Teller → Type 0
TellerLeft t ls last =
    let es = floor_steps t.watch.tested.device (map floor_event (texts_of ls)) in
    (last.starts ≡ t.starts) × (last.report ≡ report_after t.report (told_within (state_of t.watch) es))
    × (state_of last.watch ≡ after_log (state_of t.watch) es)
    × (last.unplayed ≡ unplayed_then t ls)
    × (last.lines ≡ t.lines + length ls)

abbrev pub TellerOverflows : Teller → List LogLine → Type 0
TellerOverflows t ls =
    (2 ^ 64 ≤ t.watch.time + sum_by seconds_by (map floor_event (texts_of ls))) ⊎ (2 ^ 64 ≤ t.lines + length ls)

pub all_unplayed : (t : Teller) (begun : Device) → t.unplayed ≡ none_unplayed → t.lines ≡ 0
    → state_of t.watch ≡ watching_from begun → (log : List ℕ)
    → unplayed_then t (kept_lines log) ≡ floor_unplayed begun log
all_unplayed t begun none first watch log =
    (λ i. unplayed_by watched_answer done_by (none i) (first i) (watch i).device
    (said_kept floor_event floor_event_of_front log i))

-- no line more
pub still_unplayed : (t : Teller) → unplayed_then t [] ≡ t.unplayed
still_unplayed t = unplayed_none watched_answer done_by t.unplayed t.lines t.watch.tested.device

module _ (begun : Device) (head : List ℕ) (way : Report) (t : Teller) (starts : t.starts ≡ begun.own.lamps)
    (report : t.report ≡ way) (watch : state_of t.watch ≡ watching_from begun) (first : t.lines ≡ 0)
    (none : t.unplayed ≡ none_unplayed) where
  pub teller_begun : (log : List ℕ)
      → head ++ teller_told t (kept_lines log) ≡ log_told begun head way log
  teller_begun log =
      (λ i. head
      ++ told_from (totals_text (starts i) (all_unplayed t begun none first watch log i)) (report i) (watch i)
      (floor_steps (watch i).device (floor_events_kept log i)))

  -- where a read fails
  pub teller_so_far : (after : Teller) (ls : List LogLine) (text : List ℕ)
      → teller_told t ls ≡ text ++ teller_told after [] → TellerLeft t ls after
      → text ≡ tellings_text way
      (told_within (watching_from begun) (floor_steps begun (map floor_event (texts_of ls))))
  teller_so_far after ls text all at =
      let events = map floor_event (texts_of ls) in
      let unplayed : unplayed_then after [] ≡ unplayed_then t ls = still_unplayed after ∙ at.3 in
      text_so_far (totals_text t.starts (unplayed_then t ls)) t.report (state_of t.watch)
      (floor_steps t.watch.tested.device events) all
      (λ i. told_from (totals_text (at.0 i) (unplayed i)) (at.1 i) (at.2 i) [])
      ∙ (λ i. tellings_text (report i) (told_within (watch i) (floor_steps (watch i).device events)))

pub teller_itself : (t : Teller) → TellerLeft t [] t
teller_itself t = (
  refl,
  sym (report_within_none t.report (state_of t.watch)),
  sym (after_none (state_of t.watch)),
  sym (still_unplayed t),
  omega arith,
)

pub teller_itself_ok : {T E : Type 0} (t : Teller) (r : Result T E) → OnOk r (TellerLeft t [] t)
teller_itself_ok t (Ok v) = teller_itself t
teller_itself_ok t (Err e) = tt

-- what of a line is not played, and what of those that come after it
pub line_unplayed : (t : Teller) (line : LogLine) (ls : List LogLine) {unplayed last : Unplayed} {lines : ℕ}
    {device : Device} → lines ≡ t.lines + 1 → device ≡ done_by t.watch.tested.device (floor_event line.text)
    → unplayed ≡ line_noted t.unplayed (t.lines + 1) (why_misread line.text)
    (watched_answer t.watch.tested.device (floor_event line.text))
    → last ≡ unplayed_by watched_answer done_by unplayed lines device (map (said_line floor_event) (texts_of ls))
    → last ≡ unplayed_then t (line ∷ ls)
line_unplayed t line ls more is noted h =
    h ∙ (λ i. unplayed_by watched_answer done_by (noted i) (more i) (is i) (map (said_line floor_event) (texts_of ls)))
    ∙ sym (unplayed_more watched_answer done_by t.unplayed t.lines t.watch.tested.device
    (said_line floor_event line.text) (map (said_line floor_event) (texts_of ls)))

pub line_over : (t : Teller) (line : LogLine) (ls : List LogLine) {after : Watching} {lines : ℕ} {ended : Bool}
    → lines ≡ t.lines + 1
    → IsWatched (state_of t.watch) (floor_step t.watch.tested.device (floor_event line.text)) after ended
    → (2 ^ 64 ≤ after.time + sum_by seconds_by (map floor_event (texts_of ls))) ⊎ (2 ^ 64 ≤ lines + length ls)
    → TellerOverflows t (line ∷ ls)
line_over t line ls more watched (inl h) =
    inl (line_counted (state_of t.watch) (floor_event line.text) (map floor_event (texts_of ls)) watched h)
line_over t line ls more watched (inr h) = inr (omega (arith, more, h))

-- the stretches that are under way, and then the totals
pub told_ended : (t : Teller) → let s = state_of t.watch in
    teller_told t [] ≡ tellings_text t.report (told_at_end s)
    ++ totals_text t.starts t.unplayed (report_after t.report (told_at_end s)) s
told_ended t =
    (λ i. told_from (totals_text t.starts (still_unplayed t i)) t.report (state_of t.watch) [])
    ∙ told_none (totals_text t.starts t.unplayed) t.report (state_of t.watch)

-- what is said of a line more, and of those that come after it
pub line_more : (t : Teller) (line : LogLine) (ls : List LogLine) {unplayed : Unplayed} {lines : ℕ} {then : Report}
    {after : Watching} {ended : Bool}
    → lines ≡ t.lines + 1
    → IsWatched (state_of t.watch) (floor_step t.watch.tested.device (floor_event line.text)) after ended
    → unplayed ≡ line_noted t.unplayed (t.lines + 1) (why_misread line.text)
    (watched_answer t.watch.tested.device (floor_event line.text))
    → then ≡ report_after t.report (lit_stretch_if ended after)
    → teller_told t (line ∷ ls) ≡ tellings_text t.report (lit_stretch_if ended after)
    ++ told_from (totals_text t.starts (unplayed_by watched_answer done_by unplayed lines after.device
    (map (said_line floor_event) (texts_of ls)))) then after
    (floor_steps after.device (map floor_event (texts_of ls)))
line_more t line ls {unplayed} {lines} {then} {after} more watched noted told =
    let e = floor_event line.text in
    let u = unplayed_by watched_answer done_by unplayed lines after.device
    (map (said_line floor_event) (texts_of ls)) in
    let all : u ≡ unplayed_then t (line ∷ ls)
    = line_unplayed t line ls more (ap (λ (x : Watching). x.device) watched.state) noted refl in
    sym (λ i. told_from (totals_text t.starts (all i)) t.report (state_of t.watch)
    (floor_steps t.watch.tested.device (map floor_event (texts_of (line ∷ ls)))))
    ∙ line_told (state_of t.watch) e (map floor_event (texts_of ls)) watched t.report (totals_text t.starts u) told
