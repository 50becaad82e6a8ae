-- The number of a call is the first row of the table that applies (RULES, The numbers a call gives).
-- Assumes nothing.
use Rattle.std.proofs.Common.{ℕ, ◌≡◌, refl, List}
use Rattle.text.specs.Rows.{first_of, numbers_of}
use Rattle.text.specs.Outcomes.{call_number}
use Rattle.text.proofs.ByRows.{call_rows_number}
use Rattle.record.specs.Refusals.{refusal_number}
use Rattle.record.specs.declared.types.Device.{Device}
use Rattle.device.specs.Calls.{receiving_rows, opening_rows, closing_rows, received_at, opened_by, closed_by}

module _ (d : Device) where
  module _ (room : ℕ) where
    pub received_number : (p : ℕ) (bs : List ℕ) → call_number refusal_number (received_at d p bs room)
        ≡ first_of (numbers_of refusal_number (receiving_rows d p room))
    unfolding received_at
    received_number p bs = call_rows_number refusal_number d _ refl (receiving_rows d p room)

    pub opened_number : (r : ℕ) → call_number refusal_number (opened_by d r room)
        ≡ first_of (numbers_of refusal_number (opening_rows d room))
    unfolding opened_by
    opened_number r = call_rows_number refusal_number d _ refl (opening_rows d room)

  pub closed_number : (p : ℕ) → call_number refusal_number (closed_by d p)
      ≡ first_of (numbers_of refusal_number (closing_rows d p))
  unfolding closed_by
  closed_number p = call_rows_number refusal_number d _ refl (closing_rows d p)
