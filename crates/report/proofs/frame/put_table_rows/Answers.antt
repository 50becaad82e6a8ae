use Rattle.std.proofs.Common.{ℕ, List, ◌≡◌, arith}
use Rattle.textio.proofs.Each.{each_more, each_fails}
use Rattle.textio.proofs.Fronts.{writes_all}
use Rattle.report.specs.Frame.{table_row}
use Rattle.report.specs.Frame.{table_rows}
use Rattle.report.proofs.frame.put_table_rows.Goals as goal

pub loop-k-preserved : goal.loop-k-preserved
loop-k-preserved g c =
    let shown : ℕ → List ℕ = table_row c.args.q c.args.seconds c.args.t.starts c.args.t.burnt c.args.t.lasts in
    each_more shown 0 c.loop-k.k _ c.loop-k.k _ _ _ (omega arith) (omega arith) c.loop-k.invariant
    c.in_ok-put_table_row.ensures.whole

pub returns-in_err-put_table_row : goal.returns-in_err-put_table_row
unfolding table_rows
returns-in_err-put_table_row g c =
    let shown : ℕ → List ℕ = table_row c.args.q c.args.seconds c.args.t.starts c.args.t.burnt c.args.t.lasts in
    each_fails shown 0 c.loop-k.k (c.args.t.count) c.loop-k.k (omega arith) c.loop-k-test.true
    c.loop-k.invariant c.in_err-put_table_row.ensures c.from_residual.ensures

pub returns : goal.returns
unfolding table_rows
returns g c =
    let all : c.loop-k.k ≡ c.args.t.count = omega (arith, c.loop-k-test.false, c.loop-k.auto.k-end) in
    writes_all _ (rw all at c.loop-k.invariant)
