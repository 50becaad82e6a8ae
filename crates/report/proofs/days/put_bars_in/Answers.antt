use Rattle.std.proofs.Common.{[]}
use Rattle.std.proofs.KnownBytes.{Appends-nil}
use Rattle.textio.proofs.Fronts.{writes_all}
use Rattle.report.proofs.Drawn.{bars_in_none, bars_in_some}
use Rattle.report.proofs.days.put_bars_in.Goals as goal

pub returns-then-y-x : goal.returns-then-y-x
returns-then-y-x g c =
    rw (bars_in_none c.args.s c.args.p.lit.now c.args.p.note c.args.p.at.from c.args.p.at.to
    c.args.p.whole.from c.args.p.whole.to _ _
    c.saturating_sub-x.ensures c.min-y.ensures
    c.if-y-x.true) (writes_all [] (Appends-nil _))

pub returns : goal.returns
returns g c =
    rw (bars_in_some c.args.s c.args.p.lit.now c.args.p.note c.args.p.at.from c.args.p.at.to
    c.args.p.whole.from c.args.p.whole.to _ _
    c.saturating_sub-x.ensures c.min-y.ensures
    c.if-y-x.false) c.put_bars.ensures
