use Rattle.std.proofs.Common.{ℕ, ◌≡◌, ◌+◌, ◌-◌, ◌/◌, ◌<◌, List, [], arith, refl, sym, ◌∙◌}
use Rattle.std.proofs.KnownBytes.{Appends-nil}
use Rattle.textio.proofs.Fronts.{writes_all}
use Rattle.report.specs.Days.{each_from, after_each, days_of, drawn_in, row_after, note_of}
use Rattle.report.specs.declared.days.PageRow.{PageRow}
use Rattle.report.proofs.Drawn.{drawn_none, drawn_unlit, drawn_some, row_undrawn, row_unlit, row_some}
use Rattle.report.proofs.Drawn.{turn_more, turn_fails, after_one, days_of_after}
use Rattle.report.proofs.page.draw.Goals as goal

pub returns-then-last-first-clause-text : goal.returns-then-last-first-clause-text
returns-then-last-first-clause-text g c =
    let v = c.args.layout in
    rw (drawn_none v c.args.row c.args.lit.now c.args.stretch.from c.args.stretch.to _ _
    c.at-first.ensures
    c.at-last.ensures c.if-last-first.true) (writes_all [] (Appends-nil _))

pub returns-then-last-first-clause-row : goal.returns-then-last-first-clause-row
returns-then-last-first-clause-row g c =
    let v = c.args.layout in
    sym (row_undrawn v c.args.row c.args.lit.now c.args.stretch.from c.args.stretch.to _ _
    c.at-first.ensures
    c.at-last.ensures c.if-last-first.true)

pub returns-then-not-burns-clause-text : goal.returns-then-not-burns-clause-text
returns-then-not-burns-clause-text g c =
    let v = c.args.layout in
    rw (drawn_unlit v c.args.row c.args.lit.now c.args.stretch.from c.args.stretch.to _ _
    c.at-first.ensures
    c.at-last.ensures (sym c.is_any-burns.ensures ∙ c.if-not-burns.true)) (writes_all [] (Appends-nil _))

pub returns-then-not-burns-clause-row : goal.returns-then-not-burns-clause-row
returns-then-not-burns-clause-row g c =
    let v = c.args.layout in
    sym (row_unlit v c.args.row c.args.lit.now c.args.stretch.from c.args.stretch.to _ _
    c.at-first.ensures
    c.at-last.ensures (sym c.is_any-burns.ensures ∙ c.if-not-burns.true))

pub loop-before-init : goal.loop-before-init
unfolding each_from after_each
loop-before-init g c =
    let none : c.at-first.result / 86400 - c.at-first.result / 86400 ≡ 0 = omega arith in
    rw none (record { row = refl; written = Appends-nil _ })

pub loop-before-preserved : goal.loop-before-preserved
loop-before-preserved g c =
    let v = c.args.layout in
    let s = c.args.stretch in
    let at = c.at-first.result in
    let last = c.at-last.result in
    let first = at / 86400 in
    let before = c.loop-before.before in
    let begun = c.loop-before.auto.before in
    let known = c.loop-before.invariant in
    let told = c.in_ok-open.ensures in
    let drawn : PageRow → ℕ → List ℕ
    = drawn_in v c.args.lit.now (note_of v.began v.long s.from s.to) at last s.from s.to in
    let note = c.note_of-note.ensures in
    record {
      row = (rw (known.row, note) at told.row)
          ∙ sym (after_one drawn (row_after v (note_of v.began v.long s.from s.to) at last) c.args.row (first + 1)
          (before - first) _ (before + 1)
          (omega (arith, begun)) (omega (arith, begun)));
      written = turn_more drawn (row_after v (note_of v.began v.long s.from s.to) at last) c.args.row (first + 1)
          (before - first) _ (before + 1) _ _ _
          (omega (arith, begun)) (omega (arith, begun)) known.written
          (rw (known.row, c.note_of-note.ensures) at told.text.whole);
    }

pub returns-in_err-open-clause-text : goal.returns-in_err-open-clause-text
returns-in_err-open-clause-text g c =
    let v = c.args.layout in
    let s = c.args.stretch in
    let at = c.at-first.result in
    let last = c.at-last.result in
    let first = at / 86400 in
    let before = c.loop-before.before in
    let begun = c.loop-before.auto.before in
    let inside : before - first < days_of last - first
    = omega (arith, begun, c.loop-before-test.true, c.days_until-before-end.ensures) in
    let known = c.loop-before.invariant in
    let drawn : PageRow → ℕ → List ℕ
    = drawn_in v c.args.lit.now (note_of v.began v.long s.from s.to) at last s.from s.to in
    rw (drawn_some v c.args.row c.args.lit.now s.from s.to at last c.at-first.ensures
    c.at-last.ensures c.if-last-first.false (sym c.is_any-burns.ensures ∙ c.if-not-burns.false))
    (turn_fails drawn (row_after v (note_of v.began v.long s.from s.to) at last) c.args.row (first + 1)
    (before - first) (days_of last - first) (before + 1)
    (omega (arith, begun)) inside known.written
    (rw (known.row, c.note_of-note.ensures) at c.in_err-open.ensures.text) c.from_residual.ensures)

pub returns-clause-text : goal.returns-clause-text
returns-clause-text g c =
    let v = c.args.layout in
    let s = c.args.stretch in
    let at = c.at-first.result in
    let last = c.at-last.result in
    let first = at / 86400 in
    let some : first < days_of last = days_of_after at last c.if-last-first.false in
    let until = c.days_until-before-end.ensures in
    let end = c.loop-before.auto.before-end (omega (arith, some, until)) in
    let all : c.loop-before.before - first ≡ days_of last - first
    = omega (arith, c.loop-before-test.false, end, until) in
    rw (drawn_some v c.args.row c.args.lit.now s.from s.to at last c.at-first.ensures
    c.at-last.ensures c.if-last-first.false (sym c.is_any-burns.ensures ∙ c.if-not-burns.false))
    (writes_all _ (rw all at c.loop-before.invariant.written))

pub returns-clause-row : goal.returns-clause-row
returns-clause-row g c =
    let v = c.args.layout in
    let s = c.args.stretch in
    let at = c.at-first.result in
    let last = c.at-last.result in
    let first = at / 86400 in
    let some : first < days_of last = days_of_after at last c.if-last-first.false in
    let until = c.days_until-before-end.ensures in
    let end = c.loop-before.auto.before-end (omega (arith, some, until)) in
    let all : c.loop-before.before - first ≡ days_of last - first
    = omega (arith, c.loop-before-test.false, end, until) in
    (rw all at c.loop-before.invariant.row)
    ∙ sym (row_some v c.args.row c.args.lit.now s.from s.to at last c.at-first.ensures
    c.at-last.ensures c.if-last-first.false (sym c.is_any-burns.ensures ∙ c.if-not-burns.false))
