use Rattle.std.proofs.Common.{◌+◌}
use Rattle.std.specs.List.{flat_map, range_with_len}
use Rattle.std.specs.Io.KnownBytes.{Appends}
use Rattle.report.specs.Days.{band_line}
use Rattle.report.proofs.days.put_lines.Given as goal

abbrev pub invariant-loop-k : goal.invariant-loop-k
invariant-loop-k g l = Appends (g.W.ByteSink.contents l.initial.out) (g.W.ByteSink.contents l.out)
    (flat_map (λ k. band_line l.scale l.y (l.before + k + 1)) (range_with_len 0 l.k))
