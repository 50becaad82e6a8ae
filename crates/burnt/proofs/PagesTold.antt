-- A page is what its parts write, one after the other; a log that is known does not change.
-- Assumes nothing.
use Rattle.std.proofs.Common.{ℕ, ◌≡◌, ◌&&◌, refl, sym, subst, ap, ◌∙◌, Bool, true, List, arith, eq-eqb}
use Rattle.std.proofs.Common.{Result, Ok, Err, OnOk, IfOk, IfErr, IfSome, Some, None}
use Rattle.std.specs.Prelude.{is_ok}
use Rattle.std.specs.declared.option.Option.{Option}
use Rattle.std.specs.declared.io.Error.{Error}
use Rattle.std.specs.Io.KnownBytes.{Appends}
use Rattle.std.proofs.KnownBytes.{Appends-trans}
use Rattle.std.proofs.lemmas.Slice.Eq.{bytes_eq-Decides}
use Rattle.textio.specs.Fronts.{WritesFront}
use Rattle.textio.proofs.Fronts.{front_none, front_then, front_more}
use Rattle.command.specs.Asked.{AskedFor}
use Rattle.floorlog.specs.Unplayed.{unplayed_text}
use Rattle.formfile.specs.declared.Begun.{Begun}
use Rattle.program.specs.Telling.{CutsOff}
use Rattle.program.specs.declared.telling.CutOff.{CutOff}
use Rattle.program.specs.declared.telling.CutCause.{CutCause}
use Rattle.program.specs.declared.telling.CutCause.TheVariants.{Changed}
use Rattle.record.specs.declared.types.Device.{Device}
use Rattle.report.specs.Reports.{sheet_new, table_new}
use Rattle.report.specs.declared.page.Query.{Query}
use Rattle.report.specs.declared.Report.TheVariants.{Survey, Picture, Table}
use Rattle.burnt.specs.LogTold.{EndsSo}
use Rattle.burnt.specs.Parts.{part_told, page_told, stray_said, are_alike}
use Rattle.burnt.specs.declared.telling.LogEnding.{LogEnding}

both : (a b : Bool) → a ≡ true → b ≡ true → (a && b) ≡ true
both a b x y = grind arith

pub alike_so : {d : Device} {sum : ℕ} {log : List ℕ} {e f : LogEnding} → EndsSo d sum log e → EndsSo d sum log f
    → are_alike e f ≡ true
alike_so {e = e} {f = f} x y =
    both _ _
    (both _ _
    (both _ _ (eq-eqb _ _ (x.seconds ∙ sym y.seconds)) (eq-eqb _ _ (x.lines ∙ sym y.lines)))
    ((bytes_eq-Decides _ _).1 (ap stray_said (x.stray ∙ sym y.stray))))
    ((bytes_eq-Decides _ _).1 (ap unplayed_text (x.unplayed ∙ sym y.unplayed)))

-- where the log is known, it ends alike each time
pub changed_unknown : (writes : Error → Type 0) (long : List ℕ → Type 0) (known : Option (List ℕ)) (d : Device)
    (sum : ℕ) (e f : LogEnding) (r : Result LogEnding CutOff)
    → IfSome known (λ log. EndsSo d sum log e) → IfSome known (λ log. EndsSo d sum log f)
    → is_ok r ≡ are_alike e f → IfErr r (λ cut. cut.cause ≡ Changed)
    → IfErr r (λ cut. CutsOff writes long known cut.cause)
changed_unknown writes long known d sum e f (Ok v) x y alike is = tt
changed_unknown writes long None d sum e f (Err cut) x y alike is =
    subst (λ (c : CutCause). CutsOff writes long None c) (sym is) refl
changed_unknown writes long (Some log) d sum e f (Err cut) x y alike is = let same = alike ∙ alike_so x y in cc

module _ (a : AskedFor) (b : Begun) (q : Query) (o0 o1 : Option (List ℕ)) where
  pub survey_front : (k : Option (List ℕ)) → IfSome k (λ log. WritesFront o0 o1 (part_told a b Survey log))
      → IfSome k (λ log. WritesFront o0 o1 (page_told a b q log))
  survey_front None f = tt
  survey_front (Some log) f = front_more o0 o1 _ _ f

  module _ (survey : LogEnding) (o2 : Option (List ℕ)) where
    pub picture_front : (k : Option (List ℕ)) → IfSome k (λ log. EndsSo b.device b.sum log survey)
        → IfSome k (λ log. Appends o0 o1 (part_told a b Survey log))
        → IfSome k (λ log. WritesFront o1 o2 (part_told a b (Picture (sheet_new q survey.seconds)) log))
        → IfSome k (λ log. WritesFront o0 o2 (page_told a b q log))
    picture_front None e s p = tt
    picture_front (Some log) e s p =
        front_then o0 o1 o2 _ _ s
        (front_more o1 o2 _ _
        (subst (λ (n : ℕ). WritesFront o1 o2 (part_told a b (Picture (sheet_new q n)) log)) e.seconds p))

    module _ (o3 : Option (List ℕ)) where
      pub table_front : (k : Option (List ℕ)) → IfSome k (λ log. EndsSo b.device b.sum log survey)
          → IfSome k (λ log. Appends o0 o1 (part_told a b Survey log))
          → IfSome k (λ log. Appends o1 o2 (part_told a b (Picture (sheet_new q survey.seconds)) log))
          → IfSome k (λ log. WritesFront o2 o3 (part_told a b (Table (table_new q)) log))
          → IfSome k (λ log. WritesFront o0 o3 (page_told a b q log))
      table_front None e s p t = tt
      table_front (Some log) e s p t =
          front_then o0 o1 o3 _ _ s
          (front_then o1 o2 o3 _ _
          (subst (λ (n : ℕ). Appends o1 o2 (part_told a b (Picture (sheet_new q n)) log)) e.seconds p) t)

      pub page_whole : (k : Option (List ℕ)) → IfSome k (λ log. EndsSo b.device b.sum log survey)
          → IfSome k (λ log. Appends o0 o1 (part_told a b Survey log))
          → IfSome k (λ log. Appends o1 o2 (part_told a b (Picture (sheet_new q survey.seconds)) log))
          → IfSome k (λ log. Appends o2 o3 (part_told a b (Table (table_new q)) log))
          → IfSome k (λ log. Appends o0 o3 (page_told a b q log))
      page_whole None e s p t = tt
      page_whole (Some log) e s p t =
          Appends-trans o0 o1 o3 _ _ s
          (Appends-trans o1 o2 o3 _ _
          (subst (λ (n : ℕ). Appends o1 o2 (part_told a b (Picture (sheet_new q n)) log)) e.seconds p) t)

-- nothing of the table is written yet
pub none_of_table : (known : Option (List ℕ)) (o : Option (List ℕ)) (text : List ℕ → List ℕ)
    → IfSome known (λ log. WritesFront o o (text log))
none_of_table None o text = tt
none_of_table (Some log) o text = front_none o _

pub on_ok : {T E : Type 0} (r : Result T E) {P : Type 0} → P → OnOk r P
on_ok (Ok v) p = p
on_ok (Err e) p = tt

-- what holds of the ending that is given back
pub same_ends : {E : Type 0} (known : Option (List ℕ)) (d : Device) (sum : ℕ) (f : LogEnding) (r : Result LogEnding E)
    → IfSome known (λ log. EndsSo d sum log f) → IfOk r (λ e. e ≡ f)
    → IfOk r (λ e. IfSome known (λ log. EndsSo d sum log e))
same_ends known d sum f (Ok v) h is =
    subst (λ (x : LogEnding). IfSome known (λ log. EndsSo d sum log x)) (sym is) h
same_ends known d sum f (Err e) h is = tt
