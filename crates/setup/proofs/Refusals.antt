-- What set-up gives by the tests that it makes, and what its check tells of it.
-- Assumes nothing.
use Rattle.std.proofs.Common.{◌≡◌, true, false, length, Some, None, Ok, Err, sym, ap}
use Rattle.record.specs.Wanted.{Wanted}
use Rattle.record.specs.Rules.{is_long_enough}
use Rattle.record.specs.SetUp.{first_out_of_range, set_up}
use Rattle.record.specs.declared.types.Setting.{Setting}
use Rattle.record.specs.declared.set_up_error.SetUpError.TheVariants.{OutOfRange, ShortPassword}
use Rattle.record.proofs.Calls.{refused_out, refused_short, none_refused, checked_set_up, checked_refused}

module _ (w : Wanted) where
  pub out_checked : (s : Setting) → Some s ≡ first_out_of_range w → Err (OutOfRange s) ≡ (set_up w).says
  out_checked s e = sym (ap (λ r. r.says) (refused_out w s (sym e)))

  module _ (e : None ≡ first_out_of_range w) where
    pub short_checked : is_long_enough (length w.password) ≡ false → Err ShortPassword ≡ (set_up w).says
    short_checked h = sym (ap (λ r. r.says) (refused_short w (sym e) h))

    pub all_checked : is_long_enough (length w.password) ≡ true → Ok tt ≡ (set_up w).says
    all_checked h = sym (ap (λ r. r.says) (none_refused w (sym e) h))

pub ruleset reasons = (short_checked, all_checked)

pub ruleset outcomes = (checked_set_up, checked_refused)
