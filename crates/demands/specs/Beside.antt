-- What is promised of a board beside the demands.
--   ClosedOr random c       the connection c is closed, or has this random number
--   RandomKept B            RULES, Connection: "Either way the random number is kept until closing", whatever calls
--                           come
--   UnheardThroughout B     an outsider is unheard at each moment of two such runs, and not at their end only
--   UnheardAnyhow B         an outsider is unheard whoever opens a place, which is not so (proofs/UnheardSamples)
-- Assumes nothing.
use Rattle.std.specs.Prelude.{ℕ, ◌≡◌, true, ◌⊎◌, List, take}
use Rattle.record.specs.Limits.{phase_closed}
use Rattle.record.specs.Places.{connection_at}
use Rattle.record.specs.Wanted.{Wanted}
use Rattle.record.specs.declared.types.Connection.{Connection}
use Rattle.device.specs.Receiving.{set_up_password}
use Rattle.device.specs.Calls.{has_password}
use Rattle.ours.specs.Board.{Board}
use Rattle.demands.specs.Calls.{Call, after}
use Rattle.demands.specs.Outsider.{unopened, IsNeverMatched}
use Rattle.demands.specs.Unheard.{AllAlike, QuietOnceApart, HeardAlike}

abbrev pub ClosedOr : ℕ → Connection → Type 0
ClosedOr random c = (c.phase ≡ phase_closed) ⊎ (c.random ≡ random)

module _ {R : Type 0} (B : Board R) where
  -- any call, at any place, on a connection that is not closed
  abbrev pub RandomKept : Type 0
  RandomKept =
      (d : R) (p : ℕ) → ((connection_at (B.shows d) p).phase ≡ phase_closed → ⊥) → (c : Call)
      → ClosedOr (connection_at (B.shows d) p).random (connection_at (B.shows (after B d c)) p)

  abbrev pub UnheardThroughout : Type 0
  UnheardThroughout =
      (w : Wanted) (p : ℕ) (xs ys : List Call)
      → let d = (B.set_up w).device in
      let password = set_up_password (B.shows d).settings in
      (B.set_up w).number ≡ 0 → has_password (B.shows d).settings ≡ true
      → AllAlike p xs ys
      → IsNeverMatched B p password d unopened xs → IsNeverMatched B p password d unopened ys
      → QuietOnceApart B p d d xs ys
      → (n : ℕ) → HeardAlike B p d d (take n xs) (take n ys)

  abbrev pub UnheardAnyhow : Type 0
  UnheardAnyhow =
      (w : Wanted) (p : ℕ) (xs ys : List Call)
      → let d = (B.set_up w).device in
      let password = set_up_password (B.shows d).settings in
      (B.set_up w).number ≡ 0 → has_password (B.shows d).settings ≡ true
      → AllAlike p xs ys
      → IsNeverMatched B p password d unopened xs → IsNeverMatched B p password d unopened ys
      → HeardAlike B p d d xs ys
