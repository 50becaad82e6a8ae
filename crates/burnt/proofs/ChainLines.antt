-- A log of the second kind told line by line: one that belongs, and one that does not.
-- Assumes nothing.
use Rattle.std.proofs.Common.{ℕ, ◌+◌, ◌-◌, ◌≡◌, refl, sym, subst, ap, ◌∙◌, Bool, true, false, ◌&&◌}
use Rattle.std.proofs.Common.{List, [], ◌∷◌, ◌++◌, arith, length, min, nat_lt, if◌then◌else◌, sum_by}
use Rattle.std.proofs.Common.{Option, Some, None, option_map}
use Rattle.std.proofs.lemmas.List.Sums.{sum_by-cons}
use Rattle.record.specs.Limits.{is_lit}
use Rattle.record.specs.declared.types.Settings.{Settings}
use Rattle.record.specs.declared.types.Own.{Own}
use Rattle.clock.specs.Second.{changed_where, marks_in}
use Rattle.textio.specs.Fronts.{WritesFront}
use Rattle.textio.specs.Lines.{LogLine, texts_of}
use Rattle.textio.proofs.Fronts.{front_more}
use Rattle.history.specs.Entries.{LogEntry}
use Rattle.history.specs.declared.recorder.Recorder.{Recorder}
use Rattle.recorded.specs.Chain.{Misfit, device_made}
use Rattle.recorded.specs.Following.{belonging, FirstStray, stray_from, stray_text}
use Rattle.recorded.proofs.Followed.{line_said, belonging_more, belonging_stray, stray_more, stray_here}
use Rattle.watch.specs.CallSteps.{said_seconds, seconds_of_said, entry_step, entry_steps}
use Rattle.watch.specs.Watching.{Step, Watching, is_burning_in, is_long}
use Rattle.watch.specs.Telling.{lit_stretch_if, after_log}
use Rattle.watch.specs.States.{IsLeft, IsLineMade, IsLineStray}
use Rattle.report.specs.Reports.{report_told, told_text, ended_until}
use Rattle.report.specs.declared.Report.{Report}
use Rattle.burnt.specs.Told.{tellings_text, report_after, told_from, told_within}
use Rattle.burnt.specs.ChainTold.{chain_ended, chain_told_from}
use Rattle.burnt.proofs.TellingsTold.{told_none}
use Rattle.burnt.proofs.LinesTold.{step_left, step_told, step_reported}

-- ---- where the log ends, no more counts of the record than its settings and its own part

module _ (starts : List ℕ) (n : ℕ) (stray : Option FirstStray) (r : Report) where
  abbrev text_at_end : Settings → Own → ℕ → ℕ → Bool → List ℕ
  text_at_end st o from to true = told_text r (marks_in st o) from to ++ []
  text_at_end st o from to false = []

  abbrev report_at_end : Settings → Own → ℕ → ℕ → Bool → Report
  report_at_end st o from to true = report_told r (marks_in st o) from to
  report_at_end st o from to false = r

  text_is : (s : Watching) (b : Bool)
      → tellings_text r (lit_stretch_if b s) ≡ text_at_end s.device.settings s.device.own s.from s.time b
  unfolding tellings_text
  text_is s true = refl
  text_is s false = refl

  report_is : (s : Watching) (b : Bool) → report_after r (lit_stretch_if b s)
      ≡ report_at_end s.device.settings s.device.own s.from s.time b
  unfolding report_after
  report_is s true = refl
  report_is s false = refl

  abbrev whole_at_end : Settings → Own → ℕ → ℕ → List ℕ → List ℕ
  whole_at_end st o from to burnt =
      let lit = is_lit o.power && nat_lt from to in
      text_at_end st o from to lit
      ++ ended_until (report_at_end st o from to lit) to (min st.lamp_count 8) starts
      (if is_lit o.power then changed_where (λ (b : ℕ). b + (to - from)) (marks_in st o) burnt else burnt) o.lamps n
      (option_map stray_text stray)

  whole_is : (s : Watching) → told_from (chain_ended starts n stray) r s []
      ≡ whole_at_end s.device.settings s.device.own s.from s.time s.burnt
  whole_is s =
      told_none (chain_ended starts n stray) r s
      ∙ (λ i. text_is s (is_burning_in s.device && is_long s) i
      ++ chain_ended starts n stray (report_is s (is_burning_in s.device && is_long s) i) s)

  pub left_told : {s after : Watching} → IsLeft s after
      → told_from (chain_ended starts n stray) r s [] ≡ told_from (chain_ended starts n stray) r after []
  left_told {s} {after} h =
      whole_is s
      ∙ sym (λ i. whole_at_end (h.settings i) (h.own i) (h.from i) (h.time i) (h.burnt i))
      ∙ sym (whole_is after)

-- ---- one line

module _ (starts : List ℕ) (n : ℕ) (log : Recorder) (r : Report) (s : Watching) (l : LogLine) (ls : List LogLine)
  where
    module _ {after : Watching} {later : Recorder} {ended : Bool} (m : IsLineMade s log l after later ended) where
      abbrev pub es : List LogEntry
      es = belonging later after.device ls

      device : after.device ≡ device_made s.device m.entry
      device = ap (λ (x : Watching). x.device) m.watched.state

      pub entries : belonging log s.device (l ∷ ls) ≡ m.entry ∷ es
      entries =
          belonging_more log s.device l ls m.said
          ∙ sym (λ i. m.entry ∷ belonging (m.log i) (device i) ls)

      pub stray : stray_from n log s.device (l ∷ ls) ≡ stray_from (n + 1) later after.device ls
      stray =
          stray_more log s.device l ls n m.said
          ∙ sym (λ i. stray_from (n + 1) (m.log i) (device i) ls)

      abbrev pub steps : List Step
      steps = entry_steps (device_made s.device m.entry) es

      pub counted : n + length (m.entry ∷ es) ≡ n + 1 + length es
      counted = omega arith

      pub made_told : {next : Report} → next ≡ report_after r (lit_stretch_if ended after)
          → chain_told_from starts None n log r s (l ∷ ls)
          ≡ tellings_text r (lit_stretch_if ended after) ++ chain_told_from starts None (n + 1) later next after ls
      made_told {next} told =
          let end = chain_ended starts (n + 1 + length es) (stray_from (n + 1) later after.device ls) in
          (λ i. told_from (chain_ended starts (n + length (entries i)) (stray i)) r s
          (entry_steps s.device (entries i)))
          ∙ (λ i. told_from
          (chain_ended starts (counted i) (stray_from (n + 1) later after.device ls)) r s
          (entry_step s.device m.entry ∷ steps))
          ∙ step_told m.watched steps r told end
          ∙ (λ i. tellings_text r (lit_stretch_if ended after)
          ++ told_from end next after (entry_steps (sym device i) es))

      -- only some of what ended with it could be told
      pub made_cut : {old new : Option (List ℕ)} → WritesFront old new (tellings_text r (lit_stretch_if ended after))
          → WritesFront old new (chain_told_from starts None n log r s (l ∷ ls))
      made_cut {old} {new} f = subst (WritesFront old new) (sym (made_told refl)) (front_more old new _ _ f)

      pub made_reported : {next last : Report} → next ≡ report_after r (lit_stretch_if ended after)
          → last ≡ report_after next (told_within after (entry_steps after.device es))
          → last ≡ report_after r (told_within s (entry_steps s.device (belonging log s.device (l ∷ ls))))
      made_reported {next} told h =
          step_reported m.watched steps r told
          (h ∙ (λ i. report_after next (told_within after (entry_steps (device i) es))))
          ∙ sym (λ i. report_after r (told_within s (entry_steps s.device (entries i))))

      pub made_left : after_log after (entry_steps after.device es)
          ≡ after_log s (entry_steps s.device (belonging log s.device (l ∷ ls)))
      made_left =
          (λ i. after_log after (entry_steps (device i) es))
          ∙ step_left m.watched steps
          ∙ sym (λ i. after_log s (entry_steps s.device (entries i)))

      -- its seconds are those that it says
      pub made_seconds : after.time + sum_by said_seconds (texts_of ls)
          ≡ s.time + sum_by said_seconds (texts_of (l ∷ ls))
      made_seconds =
          let time = ap (λ (x : Watching). x.time) m.watched.state in
          let said = ap seconds_of_said (line_said log s.device l m.said) in
          omega (arith, time, said, sum_by-cons said_seconds l.text (texts_of ls))

    module _ {after : Watching} {why : Misfit} (next : Recorder)
        (x : IsLineStray s log l after why) where
      none : belonging log s.device (l ∷ ls) ≡ []
      none = belonging_stray log s.device l ls x.told

      here : stray_from n log s.device (l ∷ ls) ≡ Some (record { line = n + 1; why = why })
      here = stray_here log s.device l ls n x.told

      pub stray_told : chain_told_from starts None n log r s (l ∷ ls)
          ≡ chain_told_from starts (Some (record { line = n + 1; why = why })) n next r after ls
      stray_told =
          (λ i. told_from (chain_ended starts (n + length (none i)) (here i)) r s (entry_steps s.device (none i)))
          ∙ left_told starts (n + 0) (Some (record { line = n + 1; why = why })) r x.left
