use Rattle.std.proofs.Common.{arith}
use Rattle.crc32.proofs.Changes.{word_in}
use Rattle.crc32.proofs.ByTable.{bytes_four, by_tables}
use Rattle.crc32.proofs.table.after_four.Goals as goal

pub returns : goal.returns
unfolding word_in
returns c =
    by_tables c.args.r c.from_le_bytes.result c.args.a c.args.b c.args.c c.args.d
    (bytes_four c.args.a c.args.b c.args.c c.args.d (omega arith) (omega arith) (omega arith) (omega arith))
    (omega arith) (omega arith) (omega (arith, c.from_le_bytes.ensures)) c.tables-t.ensures
