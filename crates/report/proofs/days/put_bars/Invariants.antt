use Rattle.std.proofs.Common.{false, slice_index_or}
use Rattle.std.specs.List.{flat_map, range_with_len}
use Rattle.std.specs.Io.KnownBytes.{Appends}
use Rattle.report.specs.Days.{bar_if}
use Rattle.report.proofs.days.put_bars.Given as goal

abbrev pub invariant-loop-k : goal.invariant-loop-k
invariant-loop-k g l = Appends (g.W.ByteSink.contents l.initial.out) (g.W.ByteSink.contents l.out)
    (flat_map (λ k. bar_if (slice_index_or l.lit k false) l.p.note l.p.whole.from l.p.whole.to l.p.x l.p.seconds k)
    (range_with_len 0 l.k))
