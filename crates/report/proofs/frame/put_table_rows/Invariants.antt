use Rattle.std.specs.List.{flat_map, range_with_len}
use Rattle.std.specs.Io.KnownBytes.{Appends}
use Rattle.report.specs.Frame.{table_row}
use Rattle.report.proofs.frame.put_table_rows.Given as goal

abbrev pub invariant-loop-k : goal.invariant-loop-k
invariant-loop-k g l = Appends (g.W.ByteSink.contents l.initial.out) (g.W.ByteSink.contents l.out)
    (flat_map (table_row l.q l.seconds l.t.starts l.t.burnt l.t.lasts) (range_with_len 0 l.k))
