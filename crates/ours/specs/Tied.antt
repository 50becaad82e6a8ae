-- What the product's calls give, as `Board` has it, field by field. The functions of this crate promise with these that
-- what a call gives is what `ours` says (src/), and those of crate `board` that a host of the archive is told that.
--   received_as r d m, opened_as r d m   what receiving and opening return, the record and the reply memory that they
--                      leave
--   given_as why r d   what a call returns that leaves the record d: its number, by `why`, and that record
--   made_as why r      what a call returns that makes a record: its number, and that record, or the blank one
-- Assumes nothing.
use Rattle.std.specs.Prelude.{ℕ, List, Result, Ok, Err}
use Rattle.text.specs.Outcomes.{outcome_number, answer_number}
use Rattle.record.specs.Refusals.{refusal_number}
use Rattle.record.specs.declared.refusal.Refusal.{Refusal}
use Rattle.record.specs.declared.types.Device.{Device}
use Rattle.device.specs.declared.calls.Received.{Received}
use Rattle.device.specs.declared.calls.Opened.{Opened}
use Rattle.record.specs.Record.{blank}
use Rattle.ours.specs.Board.{Given, Lent}

abbrev pub received_as : Result Received Refusal → Device → List ℕ → Lent Device
received_as r d m = record {
  number = outcome_number refusal_number r;
  taken = answer_number (λ a. a.taken) r;
  length = answer_number (λ a. a.length) r;
  memory = m;
  device = d;
}

abbrev pub opened_as : Result Opened Refusal → Device → List ℕ → Lent Device
opened_as r d m = record {
  number = outcome_number refusal_number r;
  taken = 0;
  length = answer_number (λ a. a.length) r;
  memory = m;
  device = d;
}

abbrev pub given_as : {E A : Type 0} → (E → ℕ) → Result A E → Device → Given Device
given_as why r d = record { number = outcome_number why r; device = d }

abbrev pub made_by : {E : Type 0} → Result Device E → Device
made_by (Ok d) = d
made_by (Err e) = blank

abbrev pub made_as : {E : Type 0} → (E → ℕ) → Result Device E → Given Device
made_as why r = given_as why r (made_by r)
