-- The setting for which set-up refuses, as a number (include/ceiling.h): its place in the order of set-up, or 0.
--   setting_number m
-- Assumes nothing.
use Rattle.std.specs.Prelude.{ℕ, Option, Some, None}
use Rattle.record.specs.OutOfRange.{setting_position}
use Rattle.record.specs.declared.types.Setting.{Setting}

abbrev pub setting_number : Option Setting → ℕ
setting_number None = 0
setting_number (Some s) = setting_position s
