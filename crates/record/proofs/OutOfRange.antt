-- Which setting is out of its range: what `first_out_of_range` tells holds of the settings, what holds of them is told,
-- and none is told exactly where each is in its range.
--   Stepped k l      the settings l stand at the places from k on, to the last
-- Assumes nothing.
use Rattle.std.specs.List.{list_all}
use Rattle.std.proofs.Common.{ℕ, suc, ◌-◌, ◌≤◌, ◌<◌, ◌≡◌, refl, sym, ap, ◌∙◌, Bool, true, false, List, [], ◌∷◌, arith}
use Rattle.std.proofs.Common.{slice_index_or, not, Option, Some, None}
use Rattle.text.proofs.Choices.{if_by}
use Rattle.record.specs.Wanted.{Wanted}
use Rattle.record.specs.SetUp.{settings_in_order, is_setting_in_range, is_in_range, is_set_up, first_failing}
use Rattle.record.specs.SetUp.{first_out_of_range}
use Rattle.record.specs.OutOfRange.{setting_position, SettingHolds}
use Rattle.record.specs.declared.types.Setting.{Setting}
use Rattle.record.specs.declared.types.Setting.TheVariants.{Name}

-- ---- the places

setting_at : ℕ → Setting
setting_at n = slice_index_or settings_in_order (n - 1) Name

setting_at-setting_position : (s : Setting) → setting_at (setting_position s) ≡ s
unfolding setting_at
setting_at-setting_position s = grind arith

pub one_setting_place : (s t : Setting) → setting_position s ≡ setting_position t → s ≡ t
one_setting_place s t e = sym (setting_at-setting_position s) ∙ ap setting_at e ∙ setting_at-setting_position t

pub setting_place_within : (s : Setting) → (1 ≤ setting_position s) × (setting_position s ≤ 12)
setting_place_within s = grind arith

abbrev Stepped : ℕ → List Setting → Type 0
Stepped k [] = k ≡ 13
Stepped k (s ∷ l) = (setting_position s ≡ k) × Stepped (suc k) l

-- ---- under any rules

module _ (f : Setting → Bool) where
  abbrev AllBelow : ℕ → Type 0
  AllBelow k = (t : Setting) → setting_position t < k → f t ≡ true

  one_more : (k : ℕ) (s : Setting) → setting_position s ≡ k → f s ≡ true → AllBelow k → AllBelow (suc k)
  one_more k s e met known t below = grind (arith, known t, one_setting_place t s, met)

  -- from the place k on, where all below it are in range
  holds_from : (k : ℕ) (l : List Setting) → Stepped k l → AllBelow k → SettingHolds f (first_failing f l)
  holds_from k [] e known = λ s. known s (omega (arith, setting_place_within s))
  holds_from k (s ∷ l) steps known =
      if_by (SettingHolds f) (not (f s))
      (λ h. record { out = grind (arith, h); earlier = λ t below. known t (omega (arith, steps.0)) })
      (λ h. holds_from (suc k) l steps.1 (one_more k s steps.0 (grind (arith, h)) known))

  one_holds : (m n : Option Setting) → SettingHolds f m → SettingHolds f n → m ≡ n
  one_holds m n h g = grind arith

  -- what is told holds
  pub first_holds : SettingHolds f (first_failing f settings_in_order)
  first_holds = grind (arith, holds_from, setting_place_within)

  -- and what holds is told
  pub holding_told : (m : Option Setting) → SettingHolds f m → first_failing f settings_in_order ≡ m
  holding_told m h = one_holds _ m first_holds h

  -- none fails where all are met, and only there
  none_failing : (l : List Setting) → list_all f l ≡ true → first_failing f l ≡ None
  none_failing [] h = refl
  none_failing (s ∷ l) h = grind (arith, h, none_failing l)

  all_met : (l : List Setting) → first_failing f l ≡ None → list_all f l ≡ true
  all_met [] e = refl
  all_met (s ∷ l) e = grind (arith, e, all_met l)

-- ---- against set-up

module _ (w : Wanted) where
  pub none_in_range : first_out_of_range w ≡ None → is_in_range w ≡ true
  unfolding is_in_range
  none_in_range = all_met (is_setting_in_range w) settings_in_order

  pub in_range_none : is_in_range w ≡ true → first_out_of_range w ≡ None
  unfolding is_in_range
  in_range_none = none_failing (is_setting_in_range w) settings_in_order

  pub in_range_each : is_in_range w ≡ true → (s : Setting) → is_setting_in_range w s ≡ true
  in_range_each h = grind (arith, in_range_none)

  pub in_range_shown : ((s : Setting) → is_setting_in_range w s ≡ true) → is_in_range w ≡ true
  in_range_shown each = none_in_range (holding_told (is_setting_in_range w) None each)

  pub each_in_range : is_set_up w ≡ true → (s : Setting) → is_setting_in_range w s ≡ true
  unfolding is_set_up
  each_in_range h = in_range_each (grind (arith, h))

  pub some_out : (s : Setting) → first_out_of_range w ≡ Some s → is_in_range w ≡ false
  some_out s e = grind (arith, in_range_none, e)
