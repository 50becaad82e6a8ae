use Rattle.std.proofs.Common.{ℕ, ◌+◌, List, ◌≡◌, arith}
use Rattle.std.proofs.KnownBytes.{Appends-nil}
use Rattle.textio.proofs.Each.{each_more, each_fails}
use Rattle.textio.proofs.Fronts.{writes_all}
use Rattle.report.specs.Days.{band_line}
use Rattle.report.specs.Days.{lines}
use Rattle.report.proofs.days.put_lines.Goals as goal

pub loop-k-init : goal.loop-k-init
loop-k-init g c = Appends-nil (g.W.ByteSink.contents c.args.out.now)

pub loop-k-preserved : goal.loop-k-preserved
loop-k-preserved g c =
    let shown : ℕ → List ℕ = λ k. band_line c.args.scale c.args.y (c.args.before + k + 1) in
    each_more shown 0 c.loop-k.k _ c.loop-k.k _ _ _ (omega arith) (omega arith) c.loop-k.invariant
    c.in_ok-put_band_line.ensures.whole

pub returns-in_err-put_band_line : goal.returns-in_err-put_band_line
unfolding lines
returns-in_err-put_band_line g c =
    let shown : ℕ → List ℕ = λ k. band_line c.args.scale c.args.y (c.args.before + k + 1) in
    each_fails shown 0 c.loop-k.k c.args.count c.loop-k.k (omega arith) c.loop-k-test.true
    c.loop-k.invariant c.in_err-put_band_line.ensures c.from_residual.ensures

pub returns : goal.returns
unfolding lines
returns g c =
    let all : c.loop-k.k ≡ c.args.count = omega (arith, c.loop-k-test.false, c.loop-k.auto.k-end) in
    writes_all _ (rw all at c.loop-k.invariant)
