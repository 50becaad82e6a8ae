use Rattle.std.proofs.Common.{false, slice_index_or}
use Rattle.std.specs.List.{flat_map, range_with_len}
use Rattle.std.specs.Io.KnownBytes.{Appends}
use Rattle.report.proofs.Told.{line_if}
use Rattle.report.proofs.lamps.put_stretches.Given as goal

abbrev pub invariant-loop-k : goal.invariant-loop-k
invariant-loop-k g l = Appends (g.W.ByteSink.contents l.initial.out) (g.W.ByteSink.contents l.out)
    (flat_map (λ k. line_if (slice_index_or l.lit k false) l.from l.to k) (range_with_len 0 l.k))
