-- A log told step by step: what a step gives, and what the steps give that follow it, are what the log with it gives.
-- Assumes nothing.
use Rattle.std.proofs.Common.{None, Some, IfSome, ℕ, ◌≡◌, sym, subst, ap, ◌∙◌, Bool, ◌&&◌, List, [], ◌∷◌, ◌++◌}
use Rattle.std.proofs.Common.{append-nil}
use Rattle.std.specs.declared.option.Option.{Option}
use Rattle.std.specs.Io.KnownBytes.{Appends}
use Rattle.std.proofs.KnownBytes.{Appends-trans}
use Rattle.std.proofs.lemmas.List.{append_cancel_right}
use Rattle.std.proofs.lemmas.Option.{IfSome_then}
use Rattle.textio.specs.Fronts.{WritesFront}
use Rattle.textio.specs.Lines.{LogLine}
use Rattle.floorlog.specs.Observing.{BreaksOff}
use Rattle.textio.proofs.Fronts.{front_then, front_more}
use Rattle.watch.specs.Watching.{Step, Watching, is_dark_with, is_long}
use Rattle.watch.specs.Telling.{told_on, lit_stretch_if, after_log}
use Rattle.watch.specs.States.{IsWatched}
use Rattle.watch.proofs.TellingsSpelt.{after_more}
use Rattle.report.specs.declared.Report.{Report}
use Rattle.burnt.specs.Told.{tellings_text, report_after, told_from, told_within}
use Rattle.burnt.proofs.TellingsTold.{told_more, told_end, report_within}

module _ {s : Watching} {e : Step} {after : Watching} {ended : Bool} (w : IsWatched s e after ended)
    (es : List Step) where
  pub step_left : after_log after es ≡ after_log s (e ∷ es)
  step_left = ap (λ (x : Watching). after_log x es) w.state ∙ sym (after_more s e es)

  told_is : lit_stretch_if ended after ≡ told_on s e
  told_is =
      ap (λ (b : Bool). lit_stretch_if b after) w.told
      ∙ ap (λ (x : Watching). lit_stretch_if (is_dark_with s x.device && is_long x) x) w.state

  module _ (r : Report) {then : Report} (told : then ≡ report_after r (lit_stretch_if ended after)) where
    pub step_told : (end : Report → Watching → List ℕ)
        → told_from end r s (e ∷ es) ≡ tellings_text r (lit_stretch_if ended after) ++ told_from end then after es
    step_told end =
        told_more end r s e es
        ∙ (λ i. let ts = sym told_is i in tellings_text r ts ++ told_from end (report_after r ts) (sym w.state i) es)
        ∙ ap (λ (q : Report). tellings_text r (lit_stretch_if ended after) ++ told_from end q after es) (sym told)

    pub step_reported : {last : Report} → last ≡ report_after then (told_within after es)
        → last ≡ report_after r (told_within s (e ∷ es))
    step_reported h =
        h ∙ (λ i. report_after (told i) (told_within after es))
        ∙ (λ i. report_after (report_after r (told_is i)) (told_within (w.state i) es))
        ∙ sym (report_within r s e es)

-- what was written of steps, where the log was left after them
pub text_so_far : (end : Report → Watching → List ℕ) (r : Report) (s : Watching) (es : List Step) {text later : List ℕ}
    → told_from end r s es ≡ text ++ later
    → later ≡ told_from end (report_after r (told_within s es)) (after_log s es) []
    → text ≡ tellings_text r (told_within s es)
text_so_far end r s es {text} {later} all rest =
    append_cancel_right text _ (told_from end (report_after r (told_within s es)) (after_log s es) [])
    (ap (λ (l : List ℕ). text ++ l) (sym rest) ∙ sym all ∙ told_end end r s es)

-- what stands before the first line, and then what is told of the log
module _ (a old mid now : Option (List ℕ)) (begun : List ℕ) (told whole : List ℕ → List ℕ)
    (is : (log : List ℕ) → begun ++ told log ≡ whole log) where
  pub begun_whole : Appends old mid begun → IfSome a (λ log. Appends mid now (told log))
      → IfSome a (λ log. Appends old now (whole log))
  begun_whole w h =
      IfSome_then a h (λ log p. subst (Appends old now) (is log) (Appends-trans old mid now _ _ w p))

  pub begun_front : Appends old mid begun → IfSome a (λ log. WritesFront mid now (told log))
      → IfSome a (λ log. WritesFront old now (whole log))
  begun_front w h =
      IfSome_then a h (λ log f. subst (WritesFront old now) (is log) (front_then old mid now _ _ w f))

-- only some of what stands before the first line could be written
pub begun_cut : (a old now : Option (List ℕ)) (begun : List ℕ) (told whole : List ℕ → List ℕ)
    → ((log : List ℕ) → begun ++ told log ≡ whole log) → WritesFront old now begun
    → IfSome a (λ log. WritesFront old now (whole log))
begun_cut None old now begun told whole is f = tt
begun_cut (Some log) old now begun told whole is f =
    subst (WritesFront old now) (is log) (front_more old now _ _ f)

-- what was written of the lines that have ended, where a read fails
pub broken_text : {S : Type 0} {output : S → List LogLine → List ℕ} {Leaves : S → List LogLine → S → Type 0}
    {s after : S}
    {log left : List ℕ} {old now : Option (List ℕ)} (b : BreaksOff output Leaves s after log left old now)
    → output s b.told ≡ b.text ++ output after []
broken_text {output = output} {s = s} b = ap (output s) (sym (append-nil b.told)) ∙ b.then []
