use Rattle.std.proofs.Common.{arith}
use Rattle.floorlog.proofs.Replayed.{printed_none, left_by_none}
use Rattle.floorlog.proofs.playing.PlayerObserver.end.Goals as goal

pub returns-clause-text : goal.returns-clause-text
returns-clause-text g c = grind (arith, printed_none)

pub returns-clause-left : goal.returns-clause-left
returns-clause-left g c = left_by_none c.args.self.now _
