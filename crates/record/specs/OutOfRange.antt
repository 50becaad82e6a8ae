-- The settings by their places, and which of them is the first out of its range (RULES, The numbers a call gives).
--   setting_position s           the place of a setting among them, from 1
--   IsFirstOut f s            s is the first: its rule is not met, and that of each earlier one is
--   SettingHolds f m          what m says of the rules f: s is the first, or every rule is met
-- Assumes nothing.
use Rattle.std.specs.Prelude.{ℕ, ◌<◌, ◌≡◌, Bool, true, false, Option, Some, None}
use Rattle.record.specs.declared.types.Setting.{Setting}
use Rattle.record.specs.declared.types.Setting.TheVariants.{Name, Maker, Model, Other, Password, Inputs, Lamps, WarmUp}
use Rattle.record.specs.declared.types.Setting.TheVariants.{Cooling, Serial, Version, Names}

abbrev pub setting_position : Setting → ℕ
setting_position Name = 1
setting_position Maker = 2
setting_position Model = 3
setting_position Other = 4
setting_position Password = 5
setting_position Inputs = 6
setting_position Lamps = 7
setting_position WarmUp = 8
setting_position Cooling = 9
setting_position Serial = 10
setting_position Version = 11
setting_position Names = 12

pub record IsFirstOut (f : Setting → Bool) (s : Setting) : Type 0 where
  pub out : f s ≡ false
  pub earlier : (t : Setting) → setting_position t < setting_position s → f t ≡ true

abbrev pub SettingHolds : (Setting → Bool) → Option Setting → Type 0
SettingHolds f (Some s) = IsFirstOut f s
SettingHolds f None = (s : Setting) → f s ≡ true
