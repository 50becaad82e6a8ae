-- A log followed, by what its next line is: one that belongs, or one that does not.
-- Assumes nothing.
use Rattle.std.proofs.Common.{ℕ, ◌+◌, ◌≡◌, refl, sym, ap, ◌∙◌, Bool, true, false, List, [], ◌∷◌, Some, None, Result}
use Rattle.std.proofs.Common.{Ok, Err}
use Rattle.std.proofs.Common.{length-append}
use Rattle.numbers.proofs.Digits.{digits_at_most_10, long_at_most_20}
use Rattle.textio.specs.Lines.{LogLine}
use Rattle.text.proofs.Choices.{if_yes, if_no}
use Rattle.record.specs.declared.types.Device.{Device}
use Rattle.history.specs.Entries.{LogEntry, entry_in}
use Rattle.history.specs.declared.recorder.Recorder.{Recorder}
use Rattle.recorded.specs.Chain.{Misfit, unended, entry_told, made_told, device_made, log_made}
use Rattle.recorded.proofs.Chained.{entry_said}
use Rattle.recorded.specs.Following.{as_made, and_made, line_told, said_then, belonging, stray_or, stray_from}

pub ruleset stray_lengths =
    (digits_at_most_10, long_at_most_20, length-append)

module _ (r : Recorder) (d : Device) where
  -- no line
  pub belonging_none : belonging r d [] ≡ []
  unfolding belonging
  belonging_none = refl

  pub stray_none : (n : ℕ) → stray_from n r d [] ≡ None
  unfolding stray_from
  stray_none n = refl

  module _ (l : LogLine) where
    -- what a line says
    pub line_unended : l.ended ≡ false → line_told r d l ≡ Err unended
    unfolding line_told
    line_unended h = if_no _ _ h

    module _ (ended : l.ended ≡ true) where
      pub line_misfit : {why : Misfit} → entry_told r d l.text ≡ Err why → line_told r d l ≡ Err why
      unfolding line_told
      line_misfit h = if_yes _ _ ended ∙ ap (and_made d) h

      pub line_stray : {e : LogEntry} {why : Misfit} → entry_told r d l.text ≡ Ok e → made_told d e ≡ Err why
          → line_told r d l ≡ Err why
      unfolding line_told
      line_stray {e} h g = if_yes _ _ ended ∙ ap (and_made d) h ∙ ap (as_made e) g

      pub line_belongs : {e : LogEntry} {n : ℕ} → entry_told r d l.text ≡ Ok e → made_told d e ≡ Ok n
          → line_told r d l ≡ Ok e
      unfolding line_told
      line_belongs {e} h g = if_yes _ _ ended ∙ ap (and_made d) h ∙ ap (as_made e) g

    -- what belongs is what it says
    made_said : (t : Result ℕ Misfit) {e f : LogEntry} → as_made f t ≡ Ok e → f ≡ e
    made_said (Ok n) h = cc
    made_said (Err why) h = cc

    told_said : (t : Result LogEntry Misfit) {e : LogEntry} → and_made d t ≡ Ok e → t ≡ Ok e
    told_said (Ok f) {e} h = ap Ok (made_said (made_told d f) h)
    told_said (Err why) h = cc

    pub line_said : {e : LogEntry} → line_told r d l ≡ Ok e → entry_in l.text ≡ Some e
    unfolding line_told
    line_said {e} h = by l.ended refl
      where
        by : (t : Bool) → l.ended ≡ t → entry_in l.text ≡ Some e
        by true ended =
            (entry_said r d l.text e (told_said (entry_told r d l.text) (sym (if_yes _ _ ended) ∙ h))).0
        by false cut =
            let none : ◌≡◌ {A = Result LogEntry Misfit} (Err unended) (Ok e) = sym (if_no _ _ cut) ∙ h in cc

    -- and what follows
    module _ (ls : List LogLine) where
      pub belonging_more : {e : LogEntry} → line_told r d l ≡ Ok e
          → belonging r d (l ∷ ls) ≡ e ∷ belonging (log_made r d e l.text) (device_made d e) ls
      unfolding belonging
      belonging_more h =
          ap (λ (t : Result LogEntry Misfit). said_then t
          (λ e. belonging (log_made r d e l.text) (device_made d e) ls)) h

      pub stray_more : (n : ℕ) {e : LogEntry} → line_told r d l ≡ Ok e
          → stray_from n r d (l ∷ ls) ≡ stray_from (n + 1) (log_made r d e l.text) (device_made d e) ls
      unfolding stray_from
      stray_more n h =
          ap (λ (t : Result LogEntry Misfit). stray_or t (n + 1)
          (λ e. stray_from (n + 1) (log_made r d e l.text) (device_made d e) ls)) h

      pub belonging_stray : {why : Misfit} → line_told r d l ≡ Err why → belonging r d (l ∷ ls) ≡ []
      unfolding belonging
      belonging_stray h =
          ap (λ (t : Result LogEntry Misfit). said_then t
          (λ e. belonging (log_made r d e l.text) (device_made d e) ls)) h

      pub stray_here : (n : ℕ) {why : Misfit} → line_told r d l ≡ Err why
          → stray_from n r d (l ∷ ls) ≡ Some (record { line = n + 1; why = why })
      unfolding stray_from
      stray_here n h =
          ap (λ (t : Result LogEntry Misfit). stray_or t (n + 1)
          (λ e. stray_from (n + 1) (log_made r d e l.text) (device_made d e) ls)) h
