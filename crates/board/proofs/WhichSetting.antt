-- The number of a setting: it tells one setting or none, 0 exactly where set-up gives 0, and the password's where
-- set-up gives 8.
-- Assumes nothing.
use Rattle.std.proofs.Common.{ℕ, ◌≡◌, ap, arith, Option, None}
use Rattle.text.specs.Outcomes.{call_number}
use Rattle.record.specs.Wanted.{Wanted}
use Rattle.record.specs.SetUp.{first_out_of_range, set_up}
use Rattle.record.specs.OutOfRange.{setting_position}
use Rattle.record.specs.SetUpErrors.{set_up_error_number, setting_told}
use Rattle.record.specs.declared.types.Setting.{Setting}
use Rattle.record.specs.declared.types.Setting.TheVariants.{Password}
use Rattle.record.proofs.Results.{none_gives_0, gives_0_none, gives_3_first, gives_8_password}
use Rattle.board.specs.Which.{setting_number}

pub setting_number_back : (m n : Option Setting) → setting_number m ≡ setting_number n → m ≡ n
setting_number_back m n h = grind arith

module _ (w : Wanted) where
  abbrev which : ℕ
  which = setting_number (setting_told (set_up w).says)

  pub which_0_set_up : which ≡ 0 → call_number set_up_error_number (set_up w) ≡ 0
  which_0_set_up e = none_gives_0 w (setting_number_back _ None e)

  pub set_up_which_0 : call_number set_up_error_number (set_up w) ≡ 0 → which ≡ 0
  set_up_which_0 e = ap setting_number (gives_0_none w e)

  pub set_up_which_3 : call_number set_up_error_number (set_up w) ≡ 3 → which ≡ setting_number (first_out_of_range w)
  set_up_which_3 e = ap setting_number (gives_3_first w e)

  pub set_up_which_8 : call_number set_up_error_number (set_up w) ≡ 8 → which ≡ setting_position Password
  set_up_which_8 e = ap setting_number (gives_8_password w e)
