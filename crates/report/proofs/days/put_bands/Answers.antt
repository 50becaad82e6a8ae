use Rattle.std.proofs.Common.{ℕ, List, ◌≡◌, arith}
use Rattle.std.proofs.KnownBytes.{Appends-nil}
use Rattle.textio.proofs.Each.{each_more, each_fails}
use Rattle.textio.proofs.Fronts.{writes_all}
use Rattle.report.specs.Days.{band}
use Rattle.report.specs.Days.{bands}
use Rattle.report.proofs.days.put_bands.Goals as goal

pub loop-k-init : goal.loop-k-init
loop-k-init g c = Appends-nil (g.W.ByteSink.contents c.args.out.now)

pub loop-k-preserved : goal.loop-k-preserved
loop-k-preserved g c =
    let shown : ℕ → List ℕ = band c.args.b.scale c.args.b.x c.args.b.width in
    each_more shown 0 c.loop-k.k _ c.loop-k.k _ _ _ (omega arith) (omega arith) c.loop-k.invariant
    c.in_ok-put_band.ensures.whole

pub returns-in_err-put_band : goal.returns-in_err-put_band
unfolding bands
returns-in_err-put_band g c =
    let shown : ℕ → List ℕ = band c.args.b.scale c.args.b.x c.args.b.width in
    each_fails shown 0 c.loop-k.k c.args.lamps c.loop-k.k (omega arith) c.loop-k-test.true
    c.loop-k.invariant c.in_err-put_band.ensures c.from_residual.ensures

pub returns : goal.returns
unfolding bands
returns g c =
    let all : c.loop-k.k ≡ c.args.lamps = omega (arith, c.loop-k-test.false, c.loop-k.auto.k-end) in
    writes_all _ (rw all at c.loop-k.invariant)
