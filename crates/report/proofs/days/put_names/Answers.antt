use Rattle.std.proofs.Common.{◌≡◌, arith}
use Rattle.std.proofs.KnownBytes.{Appends-nil}
use Rattle.textio.proofs.Each.{each_more, each_fails}
use Rattle.textio.proofs.Fronts.{writes_all}
use Rattle.report.specs.Days.{lamp_name, lamp_names}
use Rattle.report.proofs.days.put_names.Goals as goal

pub loop-k-init : goal.loop-k-init
loop-k-init g c = Appends-nil (g.W.ByteSink.contents c.args.out.now)

pub loop-k-preserved : goal.loop-k-preserved
loop-k-preserved g c =
    each_more lamp_name 0 c.loop-k.k _ c.loop-k.k _ _ _ (omega arith) (omega arith) c.loop-k.invariant
    c.in_ok-put_name.ensures.whole

pub returns-in_err-put_name : goal.returns-in_err-put_name
unfolding lamp_names
returns-in_err-put_name g c =
    each_fails lamp_name 0 c.loop-k.k c.args.lamps c.loop-k.k (omega arith) c.loop-k-test.true c.loop-k.invariant
    c.in_err-put_name.ensures c.from_residual.ensures

pub returns : goal.returns
unfolding lamp_names
returns g c =
    let all : c.loop-k.k ≡ c.args.lamps = omega (arith, c.loop-k-test.false, c.loop-k.auto.k-end) in
    writes_all _ (rw all at c.loop-k.invariant)
