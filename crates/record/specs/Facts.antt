-- What a legal record is, as facts with named parts. `Legal` has the same as tests that compute; proofs/FactsTold.antt
-- ties the two: IsTrue (is_own s o) ↔ IsOwn s o, and so on.
--   Fills room rule s n       the array s has that room, its first n places follow the rule, the rest is zero
--   IsTransition n               n seconds are a warm-up's or a cooling's
--   IsNames n ns              the first n places have a name each (RULES, Class 2), the others none
--   IsSettings s              the settings are in range; a password is one of the writer's, and long enough
--   IsOwn s o                 the own part is legal under the settings s
--   IsConnection c            the connection is legal
--   HasFlags d                each flag of the record is 0 or 1
--   IsLegal d                 the record is
-- Assumes nothing.
use Rattle.std.specs.Prelude.{ℕ, ◌*◌, ◌≤◌, ◌<◌, ◌≡◌, IsTrue, Bool, List, All, length, slice_index_or}
use Rattle.std.specs.List.{list_all}
use Rattle.text.specs.Flags.{is_raised}
use Rattle.text.specs.Rooms.{Uses}
use Rattle.words.specs.Bytes.{is_cr_free}
use Rattle.words.specs.Texts.{is_text, is_name, is_info, is_password, info_most, input_name_most}
use Rattle.record.specs.Limits.{text_room, listed_most, input_room, lamps_most, line_room, places_count, only_in_2}
use Rattle.record.specs.Limits.{transition_most, phase_closed, phase_failed, volume_most}
use Rattle.record.specs.Rules.{is_long_enough, is_inputs, is_lamps, is_marks, is_error_list}
use Rattle.record.specs.Legal.{is_zero, fills_name_room, is_age, is_held}
use Rattle.record.specs.Places.{connection_at}
use Rattle.record.specs.Views.{IsPowerOf}
use Rattle.record.specs.declared.types.InputName.{InputName}
use Rattle.record.specs.declared.types.Settings.{Settings}
use Rattle.record.specs.declared.types.Own.{Own}
use Rattle.record.specs.declared.types.Connection.{Connection}
use Rattle.record.specs.declared.types.Device.{Device}

abbrev pub Fills : ℕ → (List ℕ → Bool) → List ℕ → ℕ → Type 0
Fills room rule s n = Uses is_zero room rule s n

pub record IsTransition (n : ℕ) : Type 0 where
  pub low : 1 ≤ n
  pub high : n ≤ transition_most

abbrev pub IsNames : ℕ → List InputName → Type 0
IsNames n ns = Uses (fills_name_room 0) listed_most (list_all (fills_name_room input_name_most)) ns n

pub record IsSettings (s : Settings) : Type 0 where
  pub name : Fills text_room is_name s.name.bytes s.name.len
  pub maker : Fills text_room is_info s.maker.bytes s.maker.len
  pub model : Fills text_room is_info s.model.bytes s.model.len
  pub other : Fills text_room is_info s.other.bytes s.other.len
  pub password : Fills text_room is_password s.password.bytes s.password.len
  pub is_long_enough : IsTrue (is_long_enough s.password.len)
  pub inputs : Fills input_room (is_inputs s.class_number) s.inputs (2 * s.input_count)
  pub lamps : s.lamp_count ≤ lamps_most
  pub warm : IsTransition s.warm
  pub cool : IsTransition s.cool
  pub serial : Fills text_room (is_text (only_in_2 s.class_number info_most)) s.serial.bytes s.serial.len
  pub version : Fills text_room (is_text (only_in_2 s.class_number info_most)) s.version.bytes s.version.len
  pub names : IsNames (only_in_2 s.class_number s.input_count) s.names

pub record IsOwn (s : Settings) (o : Own) : Type 0 where
  pub errors : IsTrue (is_error_list o.errors)
  pub lamps : Fills lamps_most is_lamps o.lamps s.lamp_count
  pub marks : IsTrue (is_marks s.lamp_count o.enabled)
  pub power : IsPowerOf s.warm s.cool o.power o.left
  pub chosen : o.chosen < s.input_count
  pub speaker : o.speaker ≤ volume_most
  pub microphone : o.microphone ≤ volume_most
  pub video_muted : o.video_muted ≤ 1
  pub audio_muted : o.audio_muted ≤ 1
  pub fault : o.fault ≤ 1
  pub frozen : o.frozen ≤ 1

pub record IsConnection (c : Connection) : Type 0 where
  pub line : Fills line_room is_cr_free c.line.bytes c.line.held
  pub phase : c.phase ≤ phase_failed
  pub age : IsTrue (is_age c.phase c.age)
  pub random : c.phase ≡ phase_closed → c.random ≡ 0
  pub overlong : c.line.overlong ≤ 1
  pub held : IsTrue (is_held c.phase (is_raised c.line.overlong) c.line.held)

-- each flag of the record is 0 or 1
pub record HasFlags (d : Device) : Type 0 where
  pub video_muted : d.own.video_muted ≤ 1
  pub audio_muted : d.own.audio_muted ≤ 1
  pub fault : d.own.fault ≤ 1
  pub frozen : d.own.frozen ≤ 1
  pub enabled : (k : ℕ) → slice_index_or d.own.enabled k 0 ≤ 1
  pub overlong : (p : ℕ) → p < places_count → (connection_at d p).line.overlong ≤ 1

pub record IsLegal (d : Device) : Type 0 where
  pub settings : IsSettings d.settings
  pub own : IsOwn d.settings d.own
  pub places : length d.connections ≡ places_count
  pub connections : All IsConnection d.connections
