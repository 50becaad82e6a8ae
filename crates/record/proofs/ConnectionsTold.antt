-- The connections of a legal record: as many as there are places, each legal by itself; what is put in a place stands
-- there, and every other place is as it was (RULES, Places).
-- Assumes nothing.
use Rattle.std.proofs.lemmas.Grind.{common_steps}
use Rattle.std.specs.List.{list_all}
use Rattle.std.proofs.Common.{ℕ, ◌<◌, ◌≡◌, true, List, arith, length}
use Rattle.std.proofs.Common.{slice_index_or, set, length-set, get_or-set_same, get_or-set_other, set-set}
use Rattle.std.proofs.lemmas.List.{set-get_or}
use Rattle.text.proofs.Choices.{both}
use Rattle.text.proofs.Scanning.{list_all-set}
use Rattle.record.specs.Limits.{places_count}
use Rattle.record.specs.Legal.{is_connection, is_connections}
use Rattle.record.specs.Record.{closed, all_closed}
use Rattle.record.specs.Places.{no_connection, connection_at, with_place}
use Rattle.record.specs.declared.types.Own.{Own}
use Rattle.record.specs.declared.types.Connection.{Connection}
use Rattle.record.specs.declared.types.Device.{Device}
use Rattle.record.proofs.ConnectionTold.{closed_legal}

module _ (cs : List Connection) where
  pub connections_shown : length cs ≡ places_count → list_all is_connection cs ≡ true → is_connections cs ≡ true
  unfolding is_connections
  connections_shown long each = grind (arith, long, each)

  -- a legal connection put in any place
  pub placed_legal : is_connections cs ≡ true → (p : ℕ) (c : Connection) → is_connection c ≡ true
      → is_connections (set cs p c) ≡ true
  unfolding is_connections
  placed_legal legal p c one = grind (arith, legal, length-set cs p c, list_all-set is_connection cs p c, one)

-- every place closed
pub all_closed_legal : is_connections all_closed ≡ true
all_closed_legal = grind (arith, connections_shown, both, closed_legal)

pub all_closed_at : (p : ℕ) → p < places_count → slice_index_or all_closed p no_connection ≡ closed
all_closed_at p there = grind arith

-- a device with one place changed
module _ (d : Device) (long : length d.connections ≡ places_count) (p : ℕ) (there : p < places_count) where
  pub placed_here : (o : Own) (c : Connection) → connection_at (with_place d o p c) p ≡ c
  placed_here o c = get_or-set_same d.connections p c no_connection (omega (arith, long))

pub placed_elsewhere : (d : Device) (o : Own) (p : ℕ) (c : Connection) (q : ℕ) → (q ≡ p → ⊥)
    → connection_at (with_place d o p c) q ≡ connection_at d q
placed_elsewhere d o p c q other = get_or-set_other d.connections p q c no_connection other

-- what holds of the connection that was put in, and of what stood at a place, holds of what stands there now
pub placed_either : (P : Connection → Type 0) (d : Device) (o : Own) (p : ℕ) (c : Connection) (q : ℕ) → P c
    → P (connection_at d q) → P (connection_at (with_place d o p c) q)
placed_either P d o p c q new old = grind (arith, common_steps)

pub with_place-with_place : (d : Device) (o : Own) (p : ℕ) (c : Connection) (u : Own) (k : Connection)
    → with_place (with_place d o p c) u p k ≡ with_place d u p k
with_place-with_place d o p c u k = grind (arith, set-set)

pub with_place-connection_at : (d : Device) (p : ℕ) → with_place d d.own p (connection_at d p) ≡ d
with_place-connection_at d p = grind (arith, set-get_or)
