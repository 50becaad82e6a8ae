use Rattle.std.proofs.Common.{slice_index_or}
use Rattle.std.specs.List.{flat_map, range_with_len}
use Rattle.std.specs.Io.KnownBytes.{Appends}
use Rattle.report.specs.Frame.{escaped}
use Rattle.report.proofs.frame.put_html.Given as goal

abbrev pub invariant-loop-k : goal.invariant-loop-k
invariant-loop-k g l = Appends (g.W.ByteSink.contents l.initial.out) (g.W.ByteSink.contents l.out)
    (flat_map (λ k. escaped l.is_ascii (slice_index_or l.text k 0)) (range_with_len 0 l.k))
