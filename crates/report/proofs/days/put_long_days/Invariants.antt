use Rattle.std.specs.List.{flat_map, range_with_len}
use Rattle.std.specs.Io.KnownBytes.{Appends}
use Rattle.report.specs.Days.{long_day}
use Rattle.report.proofs.days.put_long_days.Given as goal

abbrev pub invariant-loop-k : goal.invariant-loop-k
invariant-loop-k g l = Appends (g.W.ByteSink.contents l.initial.out) (g.W.ByteSink.contents l.out)
    (flat_map (long_day l.v l.row) (range_with_len 0 l.k))
