-- the days that were drawn in have their rows, and are drawn in
use Rattle.std.proofs.Common.{◌≡◌, ◌+◌, ◌-◌, ◌/◌}
use Rattle.std.specs.List.{range_with_len}
use Rattle.std.specs.Io.KnownBytes.{Appends}
use Rattle.report.specs.Days.{each_from, after_each, row_after, drawn_in, note_of}
use Rattle.report.proofs.page.draw.Given as goal

abbrev pub invariant-loop-before : goal.invariant-loop-before
invariant-loop-before g l =
    let days = range_with_len (l.first / 86400 + 1) (l.before - l.first / 86400) in
    let s = l.fn.stretch in
    let note = note_of l.layout.began l.layout.long s.from s.to in
    record {
      row : l.open ≡ after_each (row_after l.layout note l.first l.last) l.fn.row days;
      written : Appends (g.W.ByteSink.contents l.initial.out) (g.W.ByteSink.contents l.out)
          (each_from (drawn_in l.layout l.lit note l.first l.last s.from s.to) (row_after l.layout note l.first l.last)
          l.fn.row days);
    }
