-- The power that is answered is that of the record.
-- Assumes nothing.
use Rattle.std.proofs.Common.{arith, ◌≡◌, ap, ◌∙◌}
use Rattle.words.specs.Powers.{power_code}
use Rattle.record.specs.Facts.{IsOwn}
use Rattle.record.specs.Views.{power_number, power_seen}
use Rattle.record.specs.declared.types.Own.{Own}
use Rattle.record.specs.declared.types.Settings.{Settings}
use Rattle.record.specs.declared.views.Power.{Power}
use Rattle.meaning.specs.Meaning.{power_said, power_digit}

by_number : (p : Power) → power_code (power_said p) ≡ power_digit (power_number p)
by_number p = grind arith

pub power_code_said : (s : Settings) (o : Own) → IsOwn s o
    → power_code (power_said (power_seen o)) ≡ power_digit o.power
power_code_said s o t = by_number (power_seen o) ∙ ap power_digit t.power.number
