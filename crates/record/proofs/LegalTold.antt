-- A legal record is legal in each part and at each place, and one that is legal in each part is legal.
-- Assumes nothing.
use Rattle.std.proofs.Common.{ℕ, ◌<◌, ◌≡◌, true, length, arith}
use Rattle.text.proofs.Choices.{both}
use Rattle.record.specs.Limits.{places_count}
use Rattle.record.specs.Legal.{is_settings, is_own, is_connection, is_connections, is_legal}
use Rattle.record.specs.Places.{connection_at}
use Rattle.record.specs.declared.types.Device.{Device}
use Rattle.record.specs.Facts.{IsSettings, IsOwn, IsConnection, IsLegal}
use Rattle.record.proofs.FactsTold.{settings_is, own_is, connection_is, each_is, legal_is}
use Rattle.record.proofs.ConnectionsTold.{connections_shown}

module _ (d : Device) where
  module _ (h : is_legal d ≡ true) where
    abbrev legal : IsLegal d
    legal = (legal_is d).0 h

    pub legal_settings : is_settings d.settings ≡ true
    legal_settings = (settings_is _).1 legal.settings

    pub legal_own : is_own d.settings d.own ≡ true
    legal_own = (own_is _ _).1 legal.own

    pub legal_connections : is_connections d.connections ≡ true
    legal_connections = connections_shown _ legal.places ((each_is _).1 legal.connections)

    pub legal_places : length d.connections ≡ places_count
    legal_places = legal.places

    module _ (p : ℕ) (there : p < places_count) where
      pub connection_of_legal : IsConnection (connection_at d p)
      connection_of_legal = legal.connections p _ (omega (arith, legal.places))

      pub legal_connection : is_connection (connection_at d p) ≡ true
      legal_connection = (connection_is _).1 connection_of_legal

    pub settings_of_legal : IsSettings d.settings
    settings_of_legal = legal.settings

    pub own_of_legal : IsOwn d.settings d.own
    own_of_legal = legal.own

  pub legal_by_parts : is_settings d.settings ≡ true → is_own d.settings d.own ≡ true
      → is_connections d.connections ≡ true → is_legal d ≡ true
  unfolding is_legal
  legal_by_parts s o c = both (both s o) c
