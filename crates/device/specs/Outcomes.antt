-- What receiving and opening return in code, beside the record and the reply memory.
--   received_said c, opened_said c   what is returned where `Calls` says that the call gives c: its answer, and the
--                                    length of the reply
-- Assumes nothing.
use Rattle.std.specs.Prelude.{ℕ, length, Result, Ok, Err}
use Rattle.text.specs.Outcomes.{CallResult}
use Rattle.record.specs.declared.refusal.Refusal.{Refusal}
use Rattle.record.specs.declared.types.Device.{Device}
use Rattle.device.specs.declared.calls.Received.{Received}
use Rattle.device.specs.declared.calls.Opened.{Opened}

abbrev pub as_received : Result ℕ Refusal → ℕ → Result Received Refusal
as_received (Ok t) n = Ok (record { taken = t; length = n })
as_received (Err e) n = Err e

abbrev pub received_said : CallResult Refusal ℕ Device → Result Received Refusal
received_said c = as_received c.says (length c.bytes)

abbrev pub as_opened : Result ℕ Refusal → ℕ → Result Opened Refusal
as_opened (Ok p) n = Ok (record { place = p; length = n })
as_opened (Err e) n = Err e

abbrev pub opened_said : CallResult Refusal ℕ Device → Result Opened Refusal
opened_said c = as_opened c.says (length c.bytes)
