use Rattle.std.proofs.Common.{false, slice_index_or}
use Rattle.std.specs.List.{flat_map, range_with_len}
use Rattle.std.specs.Io.KnownBytes.{Appends}
use Rattle.report.specs.Table.{row_as, row_if}
use Rattle.report.proofs.table.put_rows.Given as goal

abbrev pub invariant-loop-k : goal.invariant-loop-k
invariant-loop-k g l = Appends (g.W.ByteSink.contents l.initial.out) (g.W.ByteSink.contents l.out)
    (flat_map (λ k. row_if (row_as l.form l.query.began l.query.long l.stretch.from l.stretch.to)
    (slice_index_or l.lit k
    false) k) (range_with_len 0 l.k))
