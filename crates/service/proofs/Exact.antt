-- A difference of two numbers, by their order.
-- Assumes nothing.
use Rattle.std.proofs.Common.{◌≡◌, ◌↔◌, arith, pos, ◌+ℤ◌, ◌<ℤ◌}
use Rattle.std.proofs.lemmas.Int.{ints}
use Rattle.service.specs.Differences.{difference_of, IsBackwards}
use Rattle.service.specs.declared.LampSeconds.{LampSeconds}

module _ (r : LampSeconds) where
  pub earlier_and_difference : pos r.earlier +ℤ difference_of r ≡ pos r.later
  earlier_and_difference = omega (arith, ints)

  pub negative_is_backwards : (difference_of r <ℤ pos 0) ↔ IsBackwards r
  negative_is_backwards = (λ h. omega (arith, ints), λ h. omega (arith, ints))
