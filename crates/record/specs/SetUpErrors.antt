-- Why set-up refuses (RULES, The numbers a call gives and Passwords).
--   set_up_error_number e    3 where a setting is out of its range, 8 where the password is too short
--   setting_of e             the setting for which it refuses
--   setting_told r           the same of what set-up says, or none
-- Assumes nothing.
use Rattle.std.specs.Prelude.{ℕ, Option, Some, None, Result, Ok, Err}
use Rattle.record.specs.declared.types.Setting.{Setting}
use Rattle.record.specs.declared.types.Setting.TheVariants.{Password}
use Rattle.record.specs.declared.set_up_error.SetUpError.{SetUpError}
use Rattle.record.specs.declared.set_up_error.SetUpError.TheVariants.{OutOfRange, ShortPassword}

abbrev pub set_up_error_number : SetUpError → ℕ
set_up_error_number (OutOfRange s) = 3
set_up_error_number ShortPassword = 8

abbrev pub setting_of : SetUpError → Setting
setting_of (OutOfRange s) = s
setting_of ShortPassword = Password

abbrev pub setting_told : {A : Type 0} → Result A SetUpError → Option Setting
setting_told (Ok x) = None
setting_told (Err e) = Some (setting_of e)
