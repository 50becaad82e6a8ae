-- The tests of legality say the facts.
-- Assumes nothing.
use Rattle.std.proofs.Common.{ℕ, arith, Bool, IsTrue, List, ◌↔◌, All}
use Rattle.std.proofs.Math.Seq.{length-take-le}
use Rattle.std.specs.List.{list_all}
use Rattle.record.specs.Legal.{is_zero, fills_room, fills_name_room, is_names, is_class_2_part, is_settings, is_own}
use Rattle.record.specs.Legal.{is_connection, is_connections, is_legal}
use Rattle.text.proofs.RoomsTold.{uses_told}
use Rattle.record.specs.Facts.{Fills, IsTransition, IsNames, IsSettings, IsOwn, IsConnection, IsLegal}
use Rattle.words.specs.Texts.{is_password, input_name_most}
use Rattle.record.specs.Limits.{text_room, listed_most}
use Rattle.record.specs.Rules.{is_long_enough, is_set_up_password, is_transition}
use Rattle.record.specs.declared.types.InputName.{InputName}
use Rattle.record.specs.declared.types.Settings.{Settings}
use Rattle.record.specs.declared.types.Own.{Own}
use Rattle.record.specs.declared.types.Connection.{Connection}
use Rattle.record.specs.declared.types.Device.{Device}
use Rattle.record.specs.Record.{closed}
use Rattle.text.proofs.Scanning.{list_all_at, list_all_by_place}
use Rattle.record.proofs.PowerSeen.{power_is, left_is}

pub fills_told : (room : ℕ) (rule : List ℕ → Bool) (s : List ℕ) (n : ℕ)
    → IsTrue (fills_room room rule s n) ↔ Fills room rule s n
unfolding fills_room
fills_told room rule s n = uses_told is_zero room rule s n

fills : {room : ℕ} {rule : List ℕ → Bool} {s : List ℕ} {n : ℕ} → IsTrue (fills_room room rule s n) → Fills room rule s n
fills h = (fills_told _ _ _ _).0 h

full : {room : ℕ} {rule : List ℕ → Bool} {s : List ℕ} {n : ℕ} → Fills room rule s n → IsTrue (fills_room room rule s n)
full t = (fills_told _ _ _ _).1 t

pub stretch_is : (n : ℕ) → IsTrue (is_transition n) ↔ IsTransition n
stretch_is n = (λ h. record { low = grind (arith, h); high = grind (arith, h) }, λ t. grind (arith, t.low, t.high))

pub names_is : (n : ℕ) (ns : List InputName) → IsTrue (is_names n ns) ↔ IsNames n ns
unfolding is_names
names_is n ns = uses_told (fills_name_room 0) listed_most (list_all (fills_name_room input_name_most)) ns n

-- a password of set-up is one that the controller's writer takes, and long enough
password_fills : (s : List ℕ) (n : ℕ) → IsTrue (fills_room text_room is_set_up_password s n)
    ↔ (Fills text_room is_password s n × IsTrue (is_long_enough n))
unfolding is_set_up_password
password_fills s n = grind (arith, fills, length-take-le, full)

pub settings_is : (s : Settings) → IsTrue (is_settings s) ↔ IsSettings s
unfolding is_settings is_class_2_part
settings_is s = (
  λ h.
      let secret = (password_fills s.password.bytes s.password.len).0 (grind (arith, h)) in
      record {
        name = fills (grind (arith, h));
        maker = fills (grind (arith, h));
        model = fills (grind (arith, h));
        other = fills (grind (arith, h));
        password = secret.0;
        is_long_enough = secret.1;
        inputs = fills (grind (arith, h));
        lamps = grind (arith, h);
        warm = (stretch_is _).0 (grind (arith, h));
        cool = (stretch_is _).0 (grind (arith, h));
        serial = fills (grind (arith, h));
        version = fills (grind (arith, h));
        names = (names_is _ _).0 (grind (arith, h));
      },
  λ t.
      grind (
        arith,
        full t.name,
        full t.maker,
        full t.model,
        full t.other,
        (password_fills _ _).1 (t.password, t.is_long_enough),
        full t.inputs,
        t.lamps,
        (stretch_is _).1 t.warm,
        (stretch_is _).1 t.cool,
        full t.serial,
        full t.version,
        (names_is _ _).1 t.names,
      ),
)

pub own_is : (s : Settings) (o : Own) → IsTrue (is_own s o) ↔ IsOwn s o
unfolding is_own
own_is s o = (
  λ h. record {
    errors = grind (arith, h);
    lamps = fills (grind (arith, h));
    marks = grind (arith, h);
    power = power_is _ _ _ _ (grind (arith, h));
    chosen = grind (arith, h);
    speaker = grind (arith, h);
    microphone = grind (arith, h);
    video_muted = grind (arith, h);
    audio_muted = grind (arith, h);
    fault = grind (arith, h);
    frozen = grind (arith, h);
  },
  λ t.
      grind (
        arith,
        t.errors,
        full t.lamps,
        t.marks,
        left_is _ _ _ _ t.power,
        t.chosen,
        t.speaker,
        t.microphone,
        t.video_muted,
        t.audio_muted,
        t.fault,
        t.frozen,
      ),
)

pub connection_is : (c : Connection) → IsTrue (is_connection c) ↔ IsConnection c
unfolding is_connection
connection_is c = grind (arith, fills, full)

pub each_is : (cs : List Connection) → IsTrue (list_all is_connection cs) ↔ All IsConnection cs
each_is cs = (
  λ h k d l. (connection_is _).0 (list_all_at is_connection cs d h k l),
  λ t. list_all_by_place is_connection closed cs (λ k l. (connection_is _).1 (t k closed l)),
)

pub legal_is : (d : Device) → IsTrue (is_legal d) ↔ IsLegal d
unfolding is_legal is_connections
legal_is d = (
  λ h. record {
    settings = (settings_is _).0 (grind (arith, h));
    own = (own_is _ _).0 (grind (arith, h));
    places = grind (arith, h);
    connections = (each_is _).0 (grind (arith, h));
  },
  λ t. grind (arith, (settings_is _).1 t.settings, (own_is _ _).1 t.own, t.places, (each_is _).1 t.connections),
)
