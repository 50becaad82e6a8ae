-- The class of a legal set-up is 1 or 2 (RULES, Class 2), as bounds.
-- Assumes nothing.
use Rattle.std.proofs.Common.{ℕ, ◌≤◌, ◌≡◌, arith, ◌==◌, eqb-true}
use Rattle.std.proofs.lemmas.Bool.Decides.{nat_tests}
use Rattle.words.specs.Classes.{class_as_number}
use Rattle.words.proofs.Characters.{either_by}
use Rattle.record.specs.Views.{class_seen}
use Rattle.record.specs.declared.types.Settings.{Settings}
use Rattle.record.proofs.SettingsTold.{class_told}
use Rattle.record.specs.Facts.{IsSettings}

module _ (s : Settings) (t : IsSettings s) where
  abbrev k : ℕ
  k = s.class_number

  pub class_low : 1 ≤ s.class_number
  class_low =
      either_by (k == 1) (k == 2) (class_told s t)
      (λ e. omega (arith, eqb-true k 1 e)) (λ e. omega (arith, eqb-true k 2 e))

  pub class_high : s.class_number ≤ 2
  class_high =
      either_by (k == 1) (k == 2) (class_told s t)
      (λ e. omega (arith, eqb-true k 1 e)) (λ e. omega (arith, eqb-true k 2 e))

  -- and the view of it loses nothing
  pub class_as_number-class_seen : class_as_number (class_seen s) ≡ s.class_number
  class_as_number-class_seen = grind (arith, class_low, class_high, nat_tests)
