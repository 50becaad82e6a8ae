use Rattle.std.proofs.Common.{ℕ, ◌≡◌, List, false, length, sym, arith, slice_index_or}
use Rattle.textio.proofs.Each.{each_more, each_fails}
use Rattle.textio.proofs.Fronts.{writes_all}
use Rattle.report.proofs.Told.{line_if, stretches_each}
use Rattle.report.proofs.lamps.put_stretches.Goals as goal

pub loop-k-preserved : goal.loop-k-preserved
loop-k-preserved g c =
    let shown : ℕ → List ℕ = λ k. line_if (slice_index_or c.args.lit.now k false) c.args.from c.args.to k in
    each_more shown 0 c.loop-k.k _ c.loop-k.k _ _ _ (omega arith) (omega arith) c.loop-k.invariant
    c.in_ok-put_stretch.ensures.whole

pub returns-in_err-put_stretch : goal.returns-in_err-put_stretch
returns-in_err-put_stretch g c =
    let shown : ℕ → List ℕ = λ k. line_if (slice_index_or c.args.lit.now k false) c.args.from c.args.to k in
    rw (sym (stretches_each c.args.lit.now c.args.from c.args.to))
    (each_fails shown 0 c.loop-k.k (length c.args.lit.now) c.loop-k.k (omega arith) c.loop-k-test.true
    c.loop-k.invariant c.in_err-put_stretch.ensures c.from_residual.ensures)

pub returns : goal.returns
returns g c =
    let all : c.loop-k.k ≡ length c.args.lit.now = omega (arith, c.loop-k-test.false, c.loop-k.auto.k-end) in
    rw (sym (stretches_each c.args.lit.now c.args.from c.args.to)) (writes_all _ (rw all at c.loop-k.invariant))
