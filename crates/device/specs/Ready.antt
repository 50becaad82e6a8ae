-- What the functions below the calls are handed: legal parts. The calls test them.
-- Assumes nothing.
use Rattle.std.specs.Prelude.{◌≡◌, true}
use Rattle.record.specs.Legal.{is_settings, is_own}
use Rattle.record.specs.declared.types.Settings.{Settings}
use Rattle.record.specs.declared.types.Own.{Own}

pub record IsReady (s : Settings) (o : Own) : Type 0 where
  pub settings : is_settings s ≡ true
  pub own : is_own s o ≡ true
