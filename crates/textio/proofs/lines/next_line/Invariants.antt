-- the parts read so far are of one line, of which no byte is left out but for want of room
use Rattle.std.proofs.Common.{◌≡◌, [], length}
use Rattle.std.specs.Io.KnownBytes.{Keeps}
use Rattle.textio.specs.Ahead.{left_in}
use Rattle.textio.specs.NextLine.{TakesPart}
use Rattle.textio.proofs.lines.next_line.Given as goal

abbrev pub invariant-loop : goal.invariant-loop
invariant-loop g l = record {
  read : TakesPart (left_in g.R.ByteSource.remaining l.initial.from) (left_in g.R.ByteSource.remaining l.from)
      l.counter [] l.line l.held [];
  keeps : Keeps (g.W.ByteSink.contents l.initial.to) (g.W.ByteSink.contents l.to);
  room : length l.line ≡ length l.initial.line;
}
