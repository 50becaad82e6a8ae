use Rattle.std.specs.List.{flat_map, range_with_len}
use Rattle.std.specs.Io.KnownBytes.{Appends}
use Rattle.report.specs.LampLines.{total_line}
use Rattle.report.proofs.lamps.put_totals.Given as goal

abbrev pub invariant-loop-k : goal.invariant-loop-k
invariant-loop-k g l = Appends (g.W.ByteSink.contents l.initial.out) (g.W.ByteSink.contents l.out)
    (flat_map (total_line l.totals.starts l.totals.burnt l.totals.lasts) (range_with_len 0 l.k))
