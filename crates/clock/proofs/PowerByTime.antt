-- The power after n seconds, as it is seen; and its numbers after one, whatever they were.
-- Assumes nothing.
use Rattle.std.proofs.Common.{ℕ, ◌≡◌, refl, ap, ◌∙◌}
use Rattle.record.specs.Views.{power_seen, power_number, power_left, IsPowerOf}
use Rattle.record.specs.declared.types.Settings.{Settings}
use Rattle.record.specs.declared.types.Own.{Own}
use Rattle.record.proofs.PowerSeen.{seen_again}
use Rattle.clock.specs.Second.{times, power_second, own_second}
use Rattle.clock.specs.After.{power_after}
use Rattle.clock.proofs.InOneGo.{own_in_one_go}

pub power_by_time : (s : Settings) (o : Own) (n : ℕ) {w c : ℕ} → IsPowerOf w c o.power o.left
    → power_seen (times (own_second s) n o) ≡ power_after n (power_seen o)
power_by_time s o n t = ap power_seen (own_in_one_go s o t n) ∙ seen_again _

module _ (s : Settings) (o : Own) where
  pub power_in_a_second : (times (own_second s) 1 o).power ≡ power_number (power_second (power_seen o))
  unfolding times own_second
  power_in_a_second = refl

  pub left_in_a_second : (times (own_second s) 1 o).left ≡ power_left (power_second (power_seen o))
  unfolding times own_second
  left_in_a_second = refl
