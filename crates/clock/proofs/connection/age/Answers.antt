-- Each `return` is one of the ways a connection ages.
use Rattle.std.proofs.Common.{◌≡◌, sym, ap, arith, Bool}
use Rattle.record.specs.Legal.{is_timed}
use Rattle.record.specs.Views.{phase_of, phase_number}
use Rattle.record.specs.declared.types.Connection.{Connection}
use Rattle.record.specs.declared.views.Phase.{Phase}
use Rattle.record.proofs.Spelt.{closed_spelt}
use Rattle.clock.specs.Second.{times, connection_second}
use Rattle.clock.proofs.ConnectionsAge.{untimed_stays, grows_older, closes}
use Rattle.clock.proofs.connection.age.Goals as goal

timed : (c : Connection) {p : Phase} {t u : Bool} → p ≡ phase_of c.phase c.age c.random
    → t ≡ is_timed (phase_number p) → t ≡ u → is_timed c.phase ≡ u
timed c seen told u = grind arith

pub returns-then-not-is_timed : goal.returns-then-not-is_timed
returns-then-not-is_timed c = grind (arith, untimed_stays)

pub returns-then-seconds-eq0 : goal.returns-then-seconds-eq0
unfolding times
returns-then-seconds-eq0 c = ap (λ n. times connection_second n c.args.connection.now) (sym c.if-seconds-eq0.true)

pub returns-then-seconds-ge-AGE_END : goal.returns-then-seconds-ge-AGE_END
returns-then-seconds-ge-AGE_END c = grind (arith, timed, closed_spelt, closes)

pub returns-then-seconds-connection : goal.returns-then-seconds-connection
returns-then-seconds-connection c = grind (arith, timed, closed_spelt, closes)

pub returns : goal.returns
returns c = grind (arith, grows_older)
