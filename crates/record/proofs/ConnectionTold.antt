-- What a legal connection tells, and how it is shown (the crates above never open `is_connection`, `is_age` or
-- `is_held`).
-- Assumes nothing.
use Rattle.std.proofs.Common.{ℕ, ◌≤◌, ◌<◌, ◌≡◌, refl, Bool, true, false, arith, lt-ltb}
use Rattle.words.specs.Bytes.{command_most}
use Rattle.words.proofs.Characters.{no_cr_of}
use Rattle.record.specs.Limits.{line_room, age_end, phase_awaiting, phase_open}
use Rattle.record.specs.Record.{closed}
use Rattle.record.specs.Legal.{is_timed, is_collecting, is_age, held_most, is_held, is_connection}
use Rattle.record.proofs.FactsTold.{connection_is}
use Rattle.record.proofs.Kept.{nothing_kept}

pub closed_holds_none : closed.line.held ≡ 0
unfolding closed
closed_holds_none = refl

-- age, by the phase
module _ (phase : ℕ) where
  pub age_early : (age : ℕ) → is_age phase age ≡ true → age < age_end
  unfolding is_age
  age_early age h = grind (arith, h)

  pub age_untimed : (age : ℕ) → is_timed phase ≡ false → is_age phase age ≡ true → age ≡ 0
  unfolding is_age
  age_untimed age t h = grind (arith, t, h)

  pub timed_age : (age : ℕ) → is_timed phase ≡ true → age < age_end → is_age phase age ≡ true
  unfolding is_age
  timed_age age t h = rw t (lt-ltb age age_end h)

  pub zero_age : is_age phase 0 ≡ true
  unfolding is_age
  zero_age = grind arith

-- collected bytes, by the phase and the mark
pub held_most_awaiting : held_most phase_awaiting ≡ line_room
unfolding held_most
held_most_awaiting = refl

pub held_most_opened : held_most phase_open ≡ command_most
unfolding held_most
held_most_opened = refl

pub held_most_none : (phase : ℕ) → is_collecting phase ≡ false → held_most phase ≡ 0
unfolding held_most
held_most_none phase h = grind (arith, h)

pub held_most_room : (phase : ℕ) → held_most phase ≤ line_room
unfolding held_most
held_most_room phase = grind arith

module _ (phase n : ℕ) where
  pub held_within : (mark : Bool) → is_held phase mark n ≡ true → n ≤ held_most phase
  unfolding is_held
  held_within mark h = grind arith

  pub marked_none : is_held phase true n ≡ true → n ≡ 0
  unfolding is_held
  marked_none h = grind (arith, h)

  pub marked_collects : is_held phase true n ≡ true → is_collecting phase ≡ true
  unfolding is_held
  marked_collects h = grind (arith, h)

  pub unmarked_held : n ≤ held_most phase → is_held phase false n ≡ true
  unfolding is_held
  unmarked_held h = grind (arith, h)

pub marked_held : (phase : ℕ) → is_collecting phase ≡ true → is_held phase true 0 ≡ true
unfolding is_held
marked_held phase h = grind (arith, h)

pub closed_legal : is_connection closed ≡ true
unfolding closed
closed_legal = grind (arith, connection_is, nothing_kept, no_cr_of, zero_age, unmarked_held)
