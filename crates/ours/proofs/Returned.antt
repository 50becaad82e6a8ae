-- What set-up, loading, receiving and opening return in code is, in a board's numbers, what `ours` says of them.
-- Assumes nothing.
use Rattle.std.proofs.Common.{ℕ, ◌≡◌, refl, arith, List, length, Err}
use Rattle.text.specs.Words.{over}
use Rattle.text.specs.Outcomes.{CallResult, answer_number, number_answered, with_record}
use Rattle.record.specs.Wanted.{Wanted}
use Rattle.record.specs.SetUp.{set_up}
use Rattle.record.specs.SetUpErrors.{set_up_error_number}
use Rattle.record.specs.Record.{blank}
use Rattle.record.proofs.Calls.{checked_refused}
use Rattle.stored.specs.Loading.{loaded_from}
use Rattle.stored.specs.Told.{load_error_number}
use Rattle.stored.proofs.Results.{load_refused}
use Rattle.record.specs.declared.types.Device.{Device}
use Rattle.device.specs.Calls.{received_at, opened_by}
use Rattle.device.specs.Outcomes.{received_said, opened_said}
use Rattle.device.proofs.Cases.{received_by, opened_by_lem}
use Rattle.ours.specs.Board.{given_in, received_in, opened_in}
use Rattle.ours.specs.Tied.{made_as, received_as, opened_as}

-- a call that makes a record, and leaves the blank one where it is refused
made_returned : {E : Type 0} (why : E → ℕ) (c : CallResult E (Unit {0}) Device)
    → ((e : E) → Err e ≡ c.says → c.leaves ≡ blank) → made_as why (with_record c) ≡ given_in why c
made_returned why c refused = grind arith

pub set_up_returned : (w : Wanted)
    → made_as set_up_error_number (with_record (set_up w)) ≡ given_in set_up_error_number (set_up w)
set_up_returned w = made_returned set_up_error_number (set_up w) (checked_refused w)

pub load_returned : (s : List ℕ)
    → made_as load_error_number (with_record (loaded_from s)) ≡ given_in load_error_number (loaded_from s)
load_returned s = made_returned load_error_number (loaded_from s) (load_refused s)

module _ (d : Device) (m : List ℕ) where
  pub received_returned : (p : ℕ) (bs : List ℕ) → let c = received_at d p bs (length m) in
      received_as (received_said c) c.leaves (over c.bytes m) ≡ received_in c m
  received_returned p bs =
      received_by d p bs (length m)
      (λ c. received_as (received_said c) c.leaves (over c.bytes m) ≡ received_in c m)
      (λ e some. refl) (λ h s t c. refl)

  module _ (random : ℕ) where
    pub opened_returned : let c = opened_by d random (length m) in
        opened_as (opened_said c) c.leaves (over c.bytes m) ≡ opened_in c m
    opened_returned =
        opened_by_lem d random (length m)
        (λ c. opened_as (opened_said c) c.leaves (over c.bytes m) ≡ opened_in c m) (λ e some. refl) (λ h s c. refl)

    pub place_returned : let c = opened_by d random (length m) in
        answer_number (λ o. o.place) (opened_said c) ≡ number_answered c
    place_returned =
        opened_by_lem d random (length m) (λ c. answer_number (λ o. o.place) (opened_said c) ≡ number_answered c)
        (λ e some. refl) (λ h s c. refl)

pub ruleset returned = (received_returned, opened_returned, place_returned)
