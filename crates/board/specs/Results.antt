-- What the calls on a record give, as the header's records have it.
--   receiving_of l, opening_of l p     what receiving and opening say, beside a record that changes in place
--   receiving_said r, opening_said r   the same of what they return in code
--   writing_of why r                   what a call says that writes, where it returned r, and `why` numbers its errors
--   wrote_of w                         what the controller's writer says, and storing
--   received_of r, opened_of r p       the same with the record, by value
--   changed_of r                       of a call that gives a number and the record
--   panel_changed_of r, panel_sent_of r     of a panel's call, and of its command
--   panel_sending_of r                 of a command, beside a panel that changes in place
--   heard_flat n h                     the number n, and what is returned for a line that was h
--   panel_heard_of r h                 of hearing a line, which was h
-- Assumes nothing.
use Rattle.std.specs.Prelude.{ℕ, length, Option, Result}
use Rattle.text.specs.Outcomes.{outcome_number, answer_number}
use Rattle.record.specs.Refusals.{refusal_number}
use Rattle.record.specs.declared.refusal.Refusal.{Refusal}
use Rattle.record.specs.declared.types.Device.{Device}
use Rattle.device.specs.declared.calls.Received.{Received}
use Rattle.device.specs.declared.calls.Opened.{Opened}
use Rattle.panel.specs.AnyPanel.{PanelAs}
use Rattle.panel.specs.Hearing.{HeardAs, heard_kind, heard_reading}
use Rattle.ours.specs.Board.{Given, Lent, Wrote}
use Rattle.board.specs.declared.results.Changed.{Changed}
use Rattle.board.specs.declared.results.Receiving.{Receiving}
use Rattle.board.specs.declared.results.Opening.{Opening}
use Rattle.board.specs.declared.results.ReceivedByValue.{ReceivedByValue}
use Rattle.board.specs.declared.results.OpenedByValue.{OpenedByValue}
use Rattle.board.specs.declared.results.PanelChanged.{PanelChanged}
use Rattle.board.specs.declared.results.PanelSent.{PanelSent}
use Rattle.board.specs.declared.results.PanelHeard.{PanelHeard}
use Rattle.board.specs.declared.writer.Written.{Written}

abbrev pub receiving_of : Lent Device → Receiving
receiving_of l = record { number = l.number; taken = l.taken; length = l.length }

abbrev pub receiving_said : Result Received Refusal → Receiving
receiving_said r = record {
  number = outcome_number refusal_number r;
  taken = answer_number (λ a. a.taken) r;
  length = answer_number (λ a. a.length) r;
}

abbrev pub opening_of : Lent Device → ℕ → Opening
opening_of l p = record { number = l.number; length = l.length; place = p }

abbrev pub opening_said : Result Opened Refusal → Opening
opening_said r = record {
  number = outcome_number refusal_number r;
  length = answer_number (λ a. a.length) r;
  place = answer_number (λ a. a.place) r;
}

abbrev pub writing_of : {E : Type 0} → (E → ℕ) → Result ℕ E → Written
writing_of why r = record { number = outcome_number why r; length = answer_number (λ n. n) r }

abbrev pub wrote_of : Wrote → Written
wrote_of w = record { number = w.number; length = w.length }

abbrev pub received_of : Lent Device → ReceivedByValue
received_of r = record { number = r.number; taken = r.taken; length = r.length; device = r.device }

abbrev pub opened_of : Lent Device → ℕ → OpenedByValue
opened_of r p = record { number = r.number; length = r.length; place = p; device = r.device }

abbrev pub changed_of : Given Device → Changed
changed_of r = record { number = r.number; device = r.device }

abbrev pub panel_changed_of : PanelAs → PanelChanged
panel_changed_of r = record { number = r.number; panel = r.panel }

abbrev pub panel_sent_of : PanelAs → PanelSent
panel_sent_of r = record { number = r.number; length = length r.line; panel = r.panel }

abbrev pub panel_sending_of : PanelAs → Written
panel_sending_of r = record { number = r.number; length = length r.line }

abbrev pub heard_flat : ℕ → Option HeardAs → PanelHeard
heard_flat n h = record { number = n; kind = heard_kind h; reading = heard_reading h }

abbrev pub panel_heard_of : PanelAs → Option HeardAs → PanelHeard
panel_heard_of r h = heard_flat r.number h
