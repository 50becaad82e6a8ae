-- so many lines are observed, and what is written of them is in the sink
use Rattle.std.proofs.Common.{IfSome}
use Rattle.textio.specs.Ahead.{left_in}
use Rattle.floorlog.proofs.Observing.{Underway}
use Rattle.floorlog.proofs.observer.follow.Given as goal

abbrev pub invariant-loop : goal.invariant-loop
invariant-loop g l =
    let o = g.O.Observer in
    IfSome (left_in g.R.ByteSource.remaining l.initial.from) (λ log.
    Underway o.output o.leaves o.overflows l.initial.observer log (g.W.ByteSink.contents l.initial.to)
    (g.W.ByteSink.contents l.to) (left_in g.R.ByteSource.remaining l.from) l.counter l.observer)
