-- The closed connection and the blank record, field by field: as the code's constants `Connection::CLOSED` and
-- `Device::BLANK` have them.
-- Assumes nothing.
use Rattle.std.proofs.Common.{◌≡◌, refl, replicate}
use Rattle.record.specs.Limits.{input_room, listed_most, line_room, places_count}
use Rattle.record.specs.Record.{zeros, closed, blank_text, blank_name, blank_own, blank}
use Rattle.record.specs.declared.types.Connection.{Connection}

abbrev closed_fields : Connection
closed_fields = record {
  phase = 0;
  age = 0;
  random = 0;
  line = record { overlong = 0; held = 0; bytes = zeros line_room };
}

pub closed_spelt : closed ≡ closed_fields
unfolding closed
closed_spelt = refl

pub blank_spelt : blank ≡ record {
  settings = record {
    name = blank_text;
    maker = blank_text;
    model = blank_text;
    other = blank_text;
    password = blank_text;
    input_count = 0;
    inputs = zeros input_room;
    lamp_count = 0;
    warm = 0;
    cool = 0;
    class_number = 0;
    serial = blank_text;
    version = blank_text;
    names = replicate listed_most blank_name;
  };
  own = blank_own;
  connections = replicate places_count closed_fields;
}
unfolding blank closed
blank_spelt = refl
