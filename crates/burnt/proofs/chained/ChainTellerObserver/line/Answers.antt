-- a line that belongs is made, and what ended with it told; one that does not is kept; and what follows that is nothing
use Rattle.std.proofs.Common.{◌≡◌, ◌+◌, arith, List, refl, sym, ◌∙◌, Some}
use Rattle.textio.specs.Lines.{LogLine}
use Rattle.textio.proofs.Failures.{both_mapped}
use Rattle.floorlog.specs.KeptText.{kept_line}
use Rattle.recorded.specs.Chain.{why_seen}
use Rattle.burnt.proofs.ChainObserved.{strayed_before, no_stray, belongs, belongs_cut, strays}
use Rattle.burnt.proofs.chained.ChainTellerObserver.line.Goals as goal

pub returns-then-is_some-clause-ok : goal.returns-then-is_some-clause-ok
returns-then-is_some-clause-ok g c =
    strayed_before c.args.self.now (kept_line c.args.line.now) (sym c.is_some.ensures ∙ c.if-is_some.true) _

pub returns-in-Ok-clause-ok : goal.returns-in-Ok-clause-ok
returns-in-Ok-clause-ok g c =
    let t = c.args.self.now in
    let none = no_stray t.stray (sym c.is_some.ensures ∙ c.if-is_some.false) in
    let lines : c.in-Some.number ≡ t.lines + 1 = omega arith in
    let made = rw c.in-Ok.is at c.in-Some-make_line.ensures.made in
    both_mapped _ _ c.map_err.ensures.variant c.tell_ended.ensures.report c.tell_ended.ensures.text.whole
    (λ reported written. belongs t (kept_line c.args.line.now) none _ refl lines none made reported written)

pub returns-in-Ok-clause-front : goal.returns-in-Ok-clause-front
returns-in-Ok-clause-front g c =
    let t = c.args.self.now in
    let none = no_stray t.stray (sym c.is_some.ensures ∙ c.if-is_some.false) in
    let made = rw c.in-Ok.is at c.in-Some-make_line.ensures.made in
    let cut = λ (ls : List LogLine). belongs_cut t (kept_line c.args.line.now) none made
    c.tell_ended.ensures.text.front ls in
    grind (arith, cut)

pub returns-in-Err-clause-ok : goal.returns-in-Err-clause-ok
returns-in-Err-clause-ok g c =
    let t = c.args.self.now in
    let none = no_stray t.stray (sym c.is_some.ensures ∙ c.if-is_some.false) in
    let lines : c.in-Some.number ≡ t.lines + 1 = omega arith in
    let stray = rw c.in-Err.is at c.in-Some-make_line.ensures.made in
    strays t (kept_line c.args.line.now) none _ refl refl refl
    (λ i. Some (record { line = lines i; why = why_seen c.in-Err.why })) stray _
