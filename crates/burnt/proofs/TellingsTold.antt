-- What is written of stretches, and of a log, by what comes.
-- Assumes nothing.
use Rattle.std.proofs.Common.{ℕ, ◌≡◌, refl, sym, ap, ◌∙◌, List, [], ◌∷◌, ◌++◌, append_assoc}
use Rattle.clock.specs.Second.{marks_in}
use Rattle.watch.specs.Watching.{Step, Watching, watched_on}
use Rattle.watch.specs.Telling.{LitStretch, told_on, told_at_end, lit_stretches, after_log}
use Rattle.watch.proofs.TellingsSpelt.{tellings_none, tellings_more, after_none, after_more}
use Rattle.report.specs.Reports.{report_told, told_text}
use Rattle.report.specs.declared.Report.{Report}
use Rattle.burnt.specs.Told.{tellings_text, report_after, told_from, told_within}

text_append : (r : Report) (ts us : List LitStretch)
    → tellings_text r (ts ++ us) ≡ tellings_text r ts ++ tellings_text (report_after r ts) us
unfolding tellings_text report_after
text_append r [] us = refl
text_append r (t ∷ ts) us =
    let lit = marks_in t.device.settings t.device.own in
    let first = told_text r lit t.from t.to in
    let then = report_told r lit t.from t.to in
    ap (λ (l : List ℕ). first ++ l) (text_append then ts us) ∙ sym (append_assoc first (tellings_text then ts) _)

report_append : (r : Report) (ts us : List LitStretch)
    → report_after r (ts ++ us) ≡ report_after (report_after r ts) us
unfolding report_after
report_append r [] us = refl
report_append r (t ∷ ts) us = report_append (report_told r (marks_in t.device.settings t.device.own) t.from t.to) ts us

module _ (end : Report → Watching → List ℕ) (r : Report) (s : Watching) where
  pub told_none : told_from end r s []
      ≡ tellings_text r (told_at_end s) ++ end (report_after r (told_at_end s)) s
  told_none =
      (λ i. let ts = tellings_none s i in tellings_text r ts ++ end (report_after r ts) (after_none s i))

  pub told_more : (e : Step) (es : List Step) → told_from end r s (e ∷ es)
      ≡ tellings_text r (told_on s e) ++ told_from end (report_after r (told_on s e)) (watched_on s e) es
  told_more e es =
      let now = told_on s e in
      let later = lit_stretches (watched_on s e) es in
      (λ i. let ts = tellings_more s e es i in
      tellings_text r ts ++ end (report_after r ts) (after_more s e es i))
      ∙ (λ i. text_append r now later i
      ++ end (report_append r now later i) (after_log (watched_on s e) es))
      ∙ append_assoc (tellings_text r now) (tellings_text (report_after r now) later) _

-- what ends with these steps, and then what is told of those that come
pub within_more : (s : Watching) (e : Step) (es : List Step)
    → told_within s (e ∷ es) ≡ told_on s e ++ told_within (watched_on s e) es
unfolding told_within
within_more s e es = refl

pub report_within : (r : Report) (s : Watching) (e : Step) (es : List Step)
    → report_after r (told_within s (e ∷ es))
    ≡ report_after (report_after r (told_on s e)) (told_within (watched_on s e) es)
report_within r s e es =
    ap (report_after r) (within_more s e es) ∙ report_append r (told_on s e) (told_within (watched_on s e) es)

pub report_within_none : (r : Report) (s : Watching) → report_after r (told_within s []) ≡ r
unfolding told_within report_after
report_within_none r s = refl

-- what ends with these steps, and then what is told where the log ends with them
pub told_end : (end : Report → Watching → List ℕ) (r : Report) (s : Watching) (es : List Step) → told_from end r s es
    ≡ tellings_text r (told_within s es)
    ++ told_from end (report_after r (told_within s es)) (after_log s es) []
unfolding told_within tellings_text report_after
told_end end r s [] = ap (λ (t : Watching). told_from end r t []) (sym (after_none s))
told_end end r s (e ∷ es) =
    let now = told_on s e in
    let rest = told_within (watched_on s e) es in
    told_more end r s e es
    ∙ ap (λ (l : List ℕ). tellings_text r now ++ l) (told_end end (report_after r now) (watched_on s e) es)
    ∙ sym (append_assoc (tellings_text r now) (tellings_text (report_after r now) rest) _)
    ∙ sym (λ i. text_append r now rest i
    ++ told_from end (report_append r now rest i) (after_more s e es i) [])
