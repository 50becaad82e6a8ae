-- Settings that can be set up fit their rooms.
-- Assumes nothing.
use Rattle.std.proofs.Common.{◌≡◌, ◌/◌, ◌≤◌, true, length, arith}
use Rattle.words.specs.Texts.{info_most}
use Rattle.words.proofs.TextsTold.{name_long, info_long, password_long}
use Rattle.record.specs.Limits.{text_room, input_room, listed_most, lamps_most, only_in_2}
use Rattle.record.specs.Wanted.{Wanted}
use Rattle.record.specs.Rules.{are_names}
use Rattle.record.specs.SetUp.{is_set_up}
use Rattle.record.specs.declared.types.Setting.TheVariants.{Name, Maker, Model, Other, Password, Inputs, Lamps}
use Rattle.record.specs.declared.types.Setting.TheVariants.{Serial, Version, Names}
use Rattle.setup.specs.Lent.{wanted_settings}
use Rattle.setup.specs.declared.wanted.Wanted.{Wanted as Lent}
use Rattle.record.proofs.Rules.{inputs_few, lamps_few, only_in_2_within, text_most}
use Rattle.record.proofs.OutOfRange.{each_in_range}

module _ (v : Lent) (h : is_set_up (wanted_settings v) ≡ true) where
  abbrev w : Wanted
  w = wanted_settings v

  pub name_fits : length w.name ≤ text_room
  name_fits = name_long _ (each_in_range w h Name)

  pub maker_fits : length w.maker ≤ text_room
  maker_fits = omega (arith, info_long _ (each_in_range w h Maker))

  pub model_fits : length w.model ≤ text_room
  model_fits = omega (arith, info_long _ (each_in_range w h Model))

  pub other_fits : length w.other ≤ text_room
  other_fits = omega (arith, info_long _ (each_in_range w h Other))

  pub password_fits : length w.password ≤ text_room
  password_fits = omega (arith, password_long _ (each_in_range w h Password))

  pub inputs_fit : length w.inputs ≤ input_room
  inputs_fit = inputs_few _ _ (each_in_range w h Inputs)

  pub lamps_fit : length w.lamps ≤ lamps_most
  lamps_fit = lamps_few _ (each_in_range w h Lamps)

  pub serial_fits : length w.serial ≤ text_room
  serial_fits =
      omega (arith, text_most _ _ (each_in_range w h Serial), only_in_2_within w.class info_most)

  pub version_fits : length w.version ≤ text_room
  version_fits =
      omega (arith, text_most _ _ (each_in_range w h Version), only_in_2_within w.class info_most)

  pub each_is_named : are_names (only_in_2 w.class (length w.inputs / 2)) w.names ≡ true
  each_is_named = each_in_range w h Names

  pub names_few : only_in_2 w.class (length w.inputs / 2) ≤ listed_most
  names_few = grind (arith, inputs_fit)

pub ruleset fits = (
  name_fits,
  maker_fits,
  model_fits,
  other_fits,
  password_fits,
  inputs_fit,
  lamps_fit,
  serial_fits,
  version_fits,
  each_is_named,
  names_few,
)
