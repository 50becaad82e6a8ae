use Rattle.std.proofs.Common.{sym, ap}
use Rattle.clock.specs.Second.{times, own_second}
use Rattle.clock.proofs.own.pass.Goals as goal

pub returns-then-seconds-eq0 : goal.returns-then-seconds-eq0
unfolding times
returns-then-seconds-eq0 c = ap (λ n. times (own_second c.args.settings.now) n c.args.own.now) (sym
    c.if-seconds-eq0.true)
