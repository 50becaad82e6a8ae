use Rattle.std.proofs.Common.{ℕ, List, ◌≡◌, false, length, arith, slice_index_or}
use Rattle.textio.proofs.Each.{each_more, each_fails}
use Rattle.textio.proofs.Fronts.{writes_all}
use Rattle.report.specs.Table.{row_as, row_if}
use Rattle.report.specs.Table.{rows_lit}
use Rattle.report.proofs.table.put_rows.Goals as goal

pub loop-k-preserved : goal.loop-k-preserved
loop-k-preserved g c =
    let shown : ℕ → List ℕ = λ k. row_if (row_as c.args.form c.args.query.began c.args.query.long
    c.args.stretch.from c.args.stretch.to)
    (slice_index_or c.args.lit.now k false) k in
    each_more shown 0 c.loop-k.k _ c.loop-k.k _ _ _ (omega arith) (omega arith) c.loop-k.invariant
    c.in_ok-put_row_if.ensures.whole

pub returns-in_err-put_row_if : goal.returns-in_err-put_row_if
unfolding rows_lit
returns-in_err-put_row_if g c =
    let shown : ℕ → List ℕ = λ k. row_if (row_as c.args.form c.args.query.began c.args.query.long
    c.args.stretch.from c.args.stretch.to)
    (slice_index_or c.args.lit.now k false) k in
    each_fails shown 0 c.loop-k.k (length c.args.lit.now) c.loop-k.k (omega arith) c.loop-k-test.true
    c.loop-k.invariant c.in_err-put_row_if.ensures c.from_residual.ensures

pub returns : goal.returns
unfolding rows_lit
returns g c =
    let all : c.loop-k.k ≡ (length c.args.lit.now) = omega (arith, c.loop-k-test.false, c.loop-k.auto.k-end) in
    writes_all _ (rw all at c.loop-k.invariant)
