use Rattle.std.proofs.Common.{take}
use Rattle.std.specs.Io.KnownBytes.{Appends}
use Rattle.report.specs.Frame.{log_items}
use Rattle.report.specs.Reports.{texts_given}
use Rattle.report.proofs.frame.put_logs.Given as goal

abbrev pub invariant-loop-name : goal.invariant-loop-name
invariant-loop-name g l = Appends (g.W.ByteSink.contents l.initial.out) (g.W.ByteSink.contents l.out)
    (log_items (texts_given (take l.name-index l.logs)))
