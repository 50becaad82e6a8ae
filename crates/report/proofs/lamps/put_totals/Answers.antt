use Rattle.std.proofs.Common.{◌≡◌, arith}
use Rattle.textio.proofs.Each.{each_more, each_fails}
use Rattle.textio.proofs.Fronts.{writes_all}
use Rattle.report.specs.LampLines.{total_line, total_lines}
use Rattle.report.proofs.lamps.put_totals.Goals as goal

pub loop-k-preserved : goal.loop-k-preserved
loop-k-preserved g c =
    let shown = total_line c.args.totals.starts c.args.totals.burnt c.args.totals.lasts in
    each_more shown 0 c.loop-k.k _ c.loop-k.k _ _ _ (omega arith) (omega arith) c.loop-k.invariant
    c.in_ok-put_total.ensures.whole

pub returns-in_err-put_total : goal.returns-in_err-put_total
unfolding total_lines
returns-in_err-put_total g c =
    let shown = total_line c.args.totals.starts c.args.totals.burnt c.args.totals.lasts in
    each_fails shown 0 c.loop-k.k c.args.totals.count c.loop-k.k (omega arith) c.loop-k-test.true c.loop-k.invariant
    c.in_err-put_total.ensures c.from_residual.ensures

pub returns : goal.returns
unfolding total_lines
returns g c =
    let all : c.loop-k.k ≡ c.args.totals.count = omega (arith, c.loop-k-test.false, c.loop-k.auto.k-end) in
    writes_all _ (rw all at c.loop-k.invariant)
