use Rattle.std.proofs.Common.{ℕ, List, ◌≡◌, false, length, arith, slice_index_or}
use Rattle.textio.proofs.Each.{each_more, each_fails}
use Rattle.textio.proofs.Fronts.{writes_all}
use Rattle.report.specs.Days.{bar_if}
use Rattle.report.specs.Days.{bars}
use Rattle.report.proofs.days.put_bars.Goals as goal

pub loop-k-preserved : goal.loop-k-preserved
loop-k-preserved g c =
    let p = c.args.p in
    let shown : ℕ → List ℕ =
    λ k. bar_if (slice_index_or c.args.lit.now k false) p.note p.whole.from p.whole.to p.x p.seconds k in
    each_more shown 0 c.loop-k.k _ c.loop-k.k _ _ _ (omega arith) (omega arith) c.loop-k.invariant
    c.in_ok-put_bar_if.ensures.whole

pub returns-in_err-put_bar_if : goal.returns-in_err-put_bar_if
unfolding bars
returns-in_err-put_bar_if g c =
    let p = c.args.p in
    let shown : ℕ → List ℕ =
    λ k. bar_if (slice_index_or c.args.lit.now k false) p.note p.whole.from p.whole.to p.x p.seconds k in
    each_fails shown 0 c.loop-k.k (length c.args.lit.now) c.loop-k.k (omega arith) c.loop-k-test.true
    c.loop-k.invariant c.in_err-put_bar_if.ensures c.from_residual.ensures

pub returns : goal.returns
unfolding bars
returns g c =
    let all : c.loop-k.k ≡ length c.args.lit.now = omega (arith, c.loop-k-test.false, c.loop-k.auto.k-end) in
    writes_all _ (rw all at c.loop-k.invariant)
