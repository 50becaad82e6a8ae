-- A history played line by line: what a line prints and leaves, and what those that follow it do, are what they do
-- together.
-- Assumes nothing.
use Rattle.std.proofs.Common.{ℕ, ◌+◌, ◌≡◌, refl, sym, ap, ◌∙◌, List, [], ◌∷◌, ◌++◌, append_assoc, Ok, Err}
use Rattle.std.proofs.Common.{Option, Some, None}
use Rattle.textio.specs.Lines.{LogLine}
use Rattle.record.specs.declared.types.Device.{Device}
use Rattle.history.specs.Entries.{LogEntry}
use Rattle.history.specs.declared.recorder.Recorder.{Recorder}
use Rattle.recorded.specs.Chain.{Misfit, device_made, reply_made, log_made}
use Rattle.recorded.specs.Following.{line_told, belonging, FirstStray, stray_from}
use Rattle.recorded.proofs.Followed.{belonging_none, stray_none, belonging_more, stray_more, belonging_stray}
use Rattle.recorded.proofs.Followed.{stray_here}
use Rattle.replay.specs.HistoryText.{replied_line, entries_text, device_after, end_text_of, history_text}

module _ (d : Device) where
  pub entries_text_none : (n : ℕ) → entries_text n d [] ≡ []
  unfolding entries_text
  entries_text_none n = refl

  pub device_after_none : device_after d [] ≡ d
  unfolding device_after
  device_after_none = refl

  module _ (e : LogEntry) (es : List LogEntry) where
    pub entries_text_more : (n : ℕ) → entries_text n d (e ∷ es)
        ≡ replied_line (n + 1) (reply_made d e) ++ entries_text (n + 1) (device_made d e) es
    unfolding entries_text
    entries_text_more n = refl

    pub device_after_more : device_after d (e ∷ es) ≡ device_after (device_made d e) es
    unfolding device_after
    device_after_more = refl

pub history_text_is : (n : ℕ) (r : Recorder) (d : Device) (ls : List LogLine) → history_text n r d ls
    ≡ entries_text n d (belonging r d ls) ++ end_text_of (device_after d (belonging r d ls)) (stray_from n r d ls)
unfolding history_text
history_text_is n r d ls = refl

module _ (n : ℕ) (r : Recorder) (d : Device) where
  abbrev text_by : List LogEntry → Option FirstStray → List ℕ
  text_by es stray = entries_text n d es ++ end_text_of (device_after d es) stray

  -- no line is left
  pub history_text_none : history_text n r d [] ≡ end_text_of d None
  history_text_none =
      history_text_is n r d [] ∙ (λ i. text_by (belonging_none r d i) (stray_none r d n i))
      ∙ (λ i. entries_text_none d n i ++ end_text_of (device_after_none d i) None)

  module _ (l : LogLine) (ls : List LogLine) where
    -- the next line belongs
    pub history_text_more : {e : LogEntry} → line_told r d l ≡ Ok e → history_text n r d (l ∷ ls)
        ≡ replied_line (n + 1) (reply_made d e) ++ history_text (n + 1) (log_made r d e l.text) (device_made d e) ls
    history_text_more {e} h =
        let r2 = log_made r d e l.text in
        let d2 = device_made d e in
        let es = belonging r2 d2 ls in
        let stray = stray_from (n + 1) r2 d2 ls in
        history_text_is n r d (l ∷ ls)
        ∙ (λ i. text_by (belonging_more r d l ls h i) (stray_more r d l ls n h i))
        ∙ (λ i. entries_text_more d e es n i ++ end_text_of (device_after_more d e es i) stray)
        ∙ append_assoc (replied_line (n + 1) (reply_made d e)) (entries_text (n + 1) d2 es)
        (end_text_of (device_after d2 es) stray)
        ∙ ap (λ (t : List ℕ). replied_line (n + 1) (reply_made d e) ++ t)
        (sym (history_text_is (n + 1) r2 d2 ls))

    -- or it does not
    pub history_text_stray : {why : Misfit} → line_told r d l ≡ Err why
        → history_text n r d (l ∷ ls) ≡ end_text_of d (Some (record { line = n + 1; why = why }))
    history_text_stray {why} h =
        history_text_is n r d (l ∷ ls)
        ∙ (λ i. text_by (belonging_stray r d l ls h i) (stray_here r d l ls n h i))
        ∙ (λ i. entries_text_none d n i
        ++ end_text_of (device_after_none d i) (Some (record { line = n + 1; why = why })))
