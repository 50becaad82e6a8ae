-- The power after n seconds: the closed form and one second more are n + 1 seconds; the lamps burn throughout or not at
-- all; what a legal power turns into is legal.
-- Assumes nothing.
use Rattle.std.proofs.Common.{ℕ, suc, ◌≡◌, arith}
use Rattle.record.specs.Views.{IsPower, is_burning}
use Rattle.record.specs.declared.views.Power.{Power}
use Rattle.clock.specs.Second.{power_second}
use Rattle.clock.specs.After.{power_after}

module _ (w c : ℕ) where
  pub second_within : (p : Power) → IsPower w c p → IsPower w c (power_second p)
  second_within p h = grind arith

  pub power_none : (p : Power) → IsPower w c p → power_after 0 p ≡ p
  power_none p h = grind arith

pub power_once : (p : Power) → power_second p ≡ power_after 1 p
power_once p = grind arith

pub power_more : (n : ℕ) (p : Power) → power_second (power_after n p) ≡ power_after (suc n) p
power_more n p = grind arith

pub is_burning-power_after : (n : ℕ) (p : Power) → is_burning (power_after n p) ≡ is_burning p
is_burning-power_after n p = grind arith
