-- A connection after n seconds: one that does not age stays, one that does is n older, or closed from the age 30 on.
-- Assumes nothing.
use Rattle.std.proofs.Common.{ℕ, zero, suc, ◌+◌, ◌≤◌, ◌<◌, ◌≡◌, ap, true, false, ⊎_elim, add-zero, arith}
use Rattle.std.proofs.Common.{lt-ltb, le-ltb}
use Rattle.record.specs.Limits.{age_end}
use Rattle.record.specs.Updates.{with_age}
use Rattle.record.specs.Legal.{is_timed}
use Rattle.record.specs.Record.{closed}
use Rattle.record.specs.declared.types.CollectedLine.{CollectedLine}
use Rattle.record.specs.declared.types.Connection.{Connection}
use Rattle.record.proofs.Spelt.{closed_spelt}
use Rattle.clock.specs.Second.{times, connection_second}
use Rattle.clock.proofs.Repeated.{times_keeps, times_stays}
use Rattle.text.proofs.Orders.{le_or_lt}

module _ (c : Connection) where
  second_untimed : is_timed c.phase ≡ false → connection_second c ≡ c
  unfolding connection_second
  second_untimed e = rw e

  second_older : is_timed c.phase ≡ true → c.age + 1 < age_end → connection_second c ≡ with_age c (c.age + 1)
  unfolding connection_second
  second_older e h = rw (e, lt-ltb (c.age + 1) age_end h)

  second_closes : is_timed c.phase ≡ true → age_end ≤ c.age + 1 → connection_second c ≡ closed
  unfolding connection_second
  second_closes e h = rw (e, le-ltb (c.age + 1) age_end h)

pub untimed_stays : (n : ℕ) (c : Connection) → is_timed c.phase ≡ false → times connection_second n c ≡ c
untimed_stays n c e = times_stays connection_second c (second_untimed c e) n

pub grows_older : (n : ℕ) (c : Connection) → is_timed c.phase ≡ true → c.age + n < age_end
    → times connection_second n c ≡ with_age c (c.age + n)
unfolding times
grows_older zero c e h = rw add-zero
grows_older (suc n) c e h = grind (arith, second_older, grows_older n c e (omega arith))

pub closes : (n : ℕ) (c : Connection) → is_timed c.phase ≡ true → 1 ≤ n → age_end ≤ c.age + n
    → times connection_second n c ≡ closed
unfolding times
closes zero c e g h = absurd (omega arith)
closes (suc zero) c e g h = second_closes c e (omega arith)
closes (suc (suc n)) c e g h =
    ⊎_elim
    (λ k. rw (closes (suc n) c e (omega arith) k) (second_untimed closed (ap (λ x. is_timed x.phase) closed_spelt)))
    (λ k. rw (grows_older (suc n) c e k) (second_closes (with_age c (c.age + suc n)) e (omega arith)))
    (le_or_lt age_end (c.age + suc n))

-- what holds of it at every age, and of the closed connection, holds of it later
module _ (P : Connection → Type 0) (none : P closed)
    (older : (c : Connection) (age : ℕ) → P c → P (with_age c age)) where
  connection_second_lem : (c : Connection) → P c → P (connection_second c)
  unfolding connection_second
  connection_second_lem c p = grind arith

  pub connection_then : (n : ℕ) (c : Connection) → P c → P (times connection_second n c)
  connection_then n c p = times_keeps P connection_second connection_second_lem n c p

-- its line is kept, or is the closed connection's
pub line_then : (P : CollectedLine → Type 0) → P closed.line → (n : ℕ) (c : Connection) → P c.line
    → P (times connection_second n c).line
line_then P none n c p = connection_then (λ (k : Connection). P k.line) none (λ k age q. q) n c p
