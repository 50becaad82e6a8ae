-- What `burnt` is asked of a page or a table, by what a command line asks for (RULES, Floor log and The programs).
--   query_of a d      of a log that begins with the device d
-- Assumes nothing.
use Rattle.record.specs.declared.types.Device.{Device}
use Rattle.command.specs.Asked.{AskedFor}
use Rattle.report.specs.declared.page.Query.{Query}

abbrev pub query_of : AskedFor → Device → Query
query_of a d = record {
  began = a.began;
  long = a.long;
  life = a.life;
  projector = record { name = d.settings.name; maker = d.settings.maker; model = d.settings.model };
}
