use Rattle.std.proofs.Common.{◌≤◌, length, arith}
use Rattle.std.proofs.KnownBytes.{Appends-nil}
use Rattle.std.proofs.lemmas.List.{take_all}
use Rattle.textio.proofs.Fronts.{writes_all}
use Rattle.report.specs.Frame.{log_items}
use Rattle.report.proofs.Named.{named_more, named_fails}
use Rattle.report.proofs.frame.put_logs.Goals as goal

pub loop-name-init : goal.loop-name-init
unfolding log_items
loop-name-init g c = Appends-nil (g.W.ByteSink.contents c.args.out.now)

pub loop-name-preserved : goal.loop-name-preserved
loop-name-preserved g c =
    named_more c.args.logs.now c.loop-name.name-index _ (omega (arith, c.loop-name-test.true)) _ _ _
    c.loop-name.invariant c.in_ok-put_log.ensures.whole

pub returns-in_err-put_log : goal.returns-in_err-put_log
returns-in_err-put_log g c =
    named_fails c.args.logs.now c.loop-name.name-index _ (omega (arith, c.loop-name-test.true))
    c.loop-name.invariant c.in_err-put_log.ensures c.from_residual.ensures

pub returns : goal.returns
returns g c =
    let past : length c.args.logs.now ≤ c.loop-name.name-index = omega (arith, c.loop-name-test.false) in
    writes_all _ (rw (take_all c.loop-name.name-index c.args.logs.now past) at c.loop-name.invariant)
