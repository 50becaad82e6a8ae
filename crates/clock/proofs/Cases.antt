-- Passing time by its cases: an illegal record comes back as it was, a legal one n seconds later.
-- Assumes nothing.
use Rattle.std.proofs.Common.{arith, ℕ, ◌≡◌, ap, true, false, not, []}
use Rattle.text.specs.Outcomes.{CallResult, served_as, refused_as}
use Rattle.text.proofs.Choices.{if_yes, if_no}
use Rattle.record.specs.Legal.{is_legal}
use Rattle.record.specs.declared.types.Device.{Device}
use Rattle.record.specs.declared.refusal.Refusal.{Refusal}
use Rattle.record.specs.declared.refusal.Refusal.TheVariants.{NotLegal}
use Rattle.clock.specs.Second.{second, times}
use Rattle.clock.specs.Passing.{time_passed}

pub passed_by : (P : CallResult Refusal (Unit {0}) Device → Type 0) (d : Device) (n : ℕ)
    → (is_legal d ≡ false → P (refused_as d NotLegal)) → (is_legal d ≡ true → P (served_as tt [] (times second n d)))
    → P (time_passed d n)
unfolding time_passed
passed_by P d n refuse accept = grind arith

module _ (d : Device) (n : ℕ) where
  pub passed_illegal : is_legal d ≡ false → time_passed d n ≡ refused_as d NotLegal
  unfolding time_passed
  passed_illegal h = if_yes _ _ (ap not h)

  pub passed_accepted : is_legal d ≡ true → time_passed d n ≡ served_as tt [] (times second n d)
  unfolding time_passed
  passed_accepted h = if_no _ _ (ap not h)
