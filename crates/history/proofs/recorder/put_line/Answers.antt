-- The line is the text and an LF, and there is room for it.
use Rattle.std.proofs.Common.{arith, codes, length-append}
use Rattle.lent.proofs.Writing.{puts_then, written_over}
use Rattle.history.specs.Entries.{entry_seen, entry_text, entry_line}
use Rattle.history.proofs.Fits.{entry_fits}
use Rattle.history.proofs.recorder.put_line.Goals as goal

pub returns-clause-written : goal.returns-clause-written
returns-clause-written c =
    let said = entry_seen c.args.entry.now in
    let both = puts_then c.entry.ensures c.byte.ensures in
    let long = entry_fits said c.requires.sayable in
    written_over (entry_line said) c.args.out.now
    (omega (arith, c.requires.fits, long, length-append (entry_text said) (codes "\n")))
    (grind (arith, both.memory, c.new-writer.ensures.memory, c.new-writer.ensures.first))
