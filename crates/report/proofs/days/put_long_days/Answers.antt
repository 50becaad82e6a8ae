use Rattle.std.proofs.Common.{ℕ, ◌-◌, List, ◌≡◌, arith}
use Rattle.std.proofs.KnownBytes.{Appends-nil}
use Rattle.textio.proofs.Each.{each_more, each_fails}
use Rattle.textio.proofs.Fronts.{writes_all}
use Rattle.report.specs.Days.{long_day}
use Rattle.report.specs.Days.{long_days}
use Rattle.report.proofs.days.put_long_days.Goals as goal

pub loop-k-init : goal.loop-k-init
loop-k-init g c = Appends-nil (g.W.ByteSink.contents c.args.out.now)

pub loop-k-preserved : goal.loop-k-preserved
loop-k-preserved g c =
    let shown : ℕ → List ℕ = long_day c.args.v c.args.row in
    each_more shown 0 c.loop-k.k _ c.loop-k.k _ _ _ (omega arith) (omega arith) c.loop-k.invariant
    c.in_ok-put_long_day.ensures.whole

pub returns-in_err-put_long_day : goal.returns-in_err-put_long_day
unfolding long_days
returns-in_err-put_long_day g c =
    let shown : ℕ → List ℕ = long_day c.args.v c.args.row in
    each_fails shown 0 c.loop-k.k (c.args.row.last - c.args.row.before) c.loop-k.k (omega arith) (omega (
      arith,
      c.loop-k-test.true,
      c.saturating_sub-days.ensures,
    ))
    c.loop-k.invariant c.in_err-put_long_day.ensures c.from_residual.ensures

pub returns : goal.returns
unfolding long_days
returns g c =
    let all : c.loop-k.k ≡ (c.args.row.last - c.args.row.before) = omega (
      arith,
      c.loop-k-test.false,
      c.loop-k.auto.k-end,
      c.saturating_sub-days.ensures,
    ) in
    writes_all _ (rw all at c.loop-k.invariant)
