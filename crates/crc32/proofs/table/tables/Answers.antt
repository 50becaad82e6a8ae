-- The tables are computed.
use Rattle.std.proofs.Common.{refl}
use Rattle.crc32.specs.Crc.{bit_shifted, bits_shifted}
use Rattle.crc32.specs.Table.{table_of, tables_of}
use Rattle.crc32.proofs.table.tables.Goals as goal

pub returns : goal.returns
unfolding bit_shifted bits_shifted table_of tables_of
returns c = refl
