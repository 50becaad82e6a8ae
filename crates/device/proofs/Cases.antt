-- The calls, case by case: one law a call, and the equation of what it does.
-- Assumes nothing.
use Rattle.std.proofs.Common.{arith, ℕ, ◌≤◌, ◌<◌, ◌≡◌, ap, true, false, not, List, [], le-ltb}
use Rattle.std.proofs.lemmas.Bool.{lt-leb}
use Rattle.text.specs.Rows.{NoneOf}
use Rattle.text.specs.Outcomes.{CallResult, served_as, refused_as}
use Rattle.text.proofs.ByRows.{rows_done}
use Rattle.text.proofs.Choices.{if_yes, if_no}
use Rattle.digest.specs.Hex.{hex_digits}
use Rattle.pjlink.specs.Forms.{greeting_open, greeting_secured}
use Rattle.record.specs.Limits.{places_count, phase_awaiting, phase_open}
use Rattle.record.specs.Legal.{is_legal}
use Rattle.record.specs.Record.{closed}
use Rattle.record.specs.Places.{connection_at, with_place, is_closed, lowest_closed}
use Rattle.record.specs.Refusals.{refusal_number}
use Rattle.record.specs.declared.refusal.Refusal.{Refusal}
use Rattle.record.specs.declared.types.Settings.{Settings}
use Rattle.record.specs.declared.types.Connection.{Connection}
use Rattle.record.specs.declared.types.Device.{Device}
use Rattle.device.specs.Receiving.{Taken, begun_in, taken_in}
use Rattle.device.specs.Calls.{reply_room, accepted_taken, opening_rows, received_at, has_password, greeting}
use Rattle.device.specs.Calls.{new_connection, accepted_opening, opened_by, closed_by}

abbrev pub takes : Device → ℕ → List ℕ → Taken
takes d p bs = taken_in d.settings d.own (connection_at d p) bs

-- receiving: refused, or what is taken in
module _ (d : Device) (p : ℕ) (bs : List ℕ) (room : ℕ) where
  pub received_by : (P : CallResult Refusal ℕ Device → Type 0)
      → ((e : Refusal) → (refusal_number e ≡ 0 → ⊥) → P (refused_as d e))
      → (is_legal d ≡ true → reply_room ≤ room → p < places_count → is_closed (connection_at d p) ≡ false
      → P (accepted_taken d p (takes d p bs)))
      → P (received_at d p bs room)
  unfolding received_at
  received_by P refused taken = grind arith

  pub received_taken : is_legal d ≡ true → reply_room ≤ room → p < places_count → is_closed (connection_at d p) ≡ false
      → received_at d p bs room ≡ accepted_taken d p (takes d p bs)
  unfolding received_at
  received_taken legal enough there live = grind arith

-- opening: refused, or the greeting at the lowest closed place
module _ (d : Device) (r room : ℕ) where
  abbrev lowest : ℕ
  lowest = lowest_closed d.connections

  pub opened_by_lem : (P : CallResult Refusal ℕ Device → Type 0)
      → ((e : Refusal) → (refusal_number e ≡ 0 → ⊥) → P (refused_as d e))
      → (is_legal d ≡ true → reply_room ≤ room → lowest < places_count → P (accepted_opening d r))
      → P (opened_by d r room)
  unfolding opened_by
  opened_by_lem P refused greets = grind arith

  module _ (legal : is_legal d ≡ true) (enough : reply_room ≤ room) (free : lowest < places_count) where
    none_applies : NoneOf (opening_rows d room)
    none_applies = (ap not legal, (le-ltb room reply_room enough, (lt-leb places_count lowest free, tt)))

    pub opened_greeted : opened_by d r room ≡ accepted_opening d r
    unfolding opened_by
    opened_greeted = rows_done (refused_as d) _ (opening_rows d room) none_applies

-- the greeting and the connection that it opens, by whether there is a password
pub greeted_by_lem : (s : Settings) (r : ℕ) (P : List ℕ → Connection → Type 0)
    → P (greeting_secured (hex_digits 8 r)) (begun_in phase_awaiting r)
    → P greeting_open (begun_in phase_open r)
    → P (greeting s r) (new_connection s r)
unfolding greeting new_connection
greeted_by_lem s r P secured plain = grind arith

-- a password of length 0 means no security, and any other that the digest is awaited
module _ (s : Settings) (r : ℕ) where
  module _ (on : has_password s ≡ true) where
    pub secured_greeting : greeting s r ≡ greeting_secured (hex_digits 8 r)
    unfolding greeting
    secured_greeting = if_yes _ _ on

    pub secured_greeted : new_connection s r ≡ begun_in phase_awaiting r
    unfolding new_connection
    secured_greeted = ap (λ (p : ℕ). begun_in p r) (if_yes _ _ on)

  module _ (none : has_password s ≡ false) where
    pub open_greeting : greeting s r ≡ greeting_open
    unfolding greeting
    open_greeting = if_no _ _ none

    pub open_greeted : new_connection s r ≡ begun_in phase_open r
    unfolding new_connection
    open_greeted = ap (λ (p : ℕ). begun_in p r) (if_no _ _ none)

-- closing: refused, or the closed connection
module _ (d : Device) (p : ℕ) where
  pub closed_by_lem : (P : CallResult Refusal (Unit {0}) Device → Type 0)
      → ((e : Refusal) → (refusal_number e ≡ 0 → ⊥) → P (refused_as d e))
      → (is_legal d ≡ true → p < places_count → is_closed (connection_at d p) ≡ false
      → P (served_as tt [] (with_place d d.own p closed)))
      → P (closed_by d p)
  unfolding closed_by
  closed_by_lem P refused closes = grind arith

  pub closed_at_place : is_legal d ≡ true → p < places_count → is_closed (connection_at d p) ≡ false
      → closed_by d p ≡ served_as tt [] (with_place d d.own p closed)
  unfolding closed_by
  closed_at_place legal there live = grind arith

pub ruleset greetings = (secured_greeting, secured_greeted, open_greeting, open_greeted)
