use Rattle.words.proofs.SourcesFollowed.{writer_follows, reader_follows, stands_only}
use Rattle.words.proofs.theorems.the_table_of_types_is_followed.Goals as goal

pub returns : goal.returns
returns c = record { written = writer_follows; read = reader_follows; only = stands_only }
