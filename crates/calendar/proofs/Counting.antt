-- Days, year by year, month by month, and day by day.
use Rattle.std.proofs.Common.{◌≡◌, ℕ, suc, ◌+◌, ◌-◌, ◌≤◌, refl, ap, ◌∙◌, arith}
use Rattle.calendar.specs.declared.Date.{Date}
use Rattle.calendar.specs.Days.{year_length, month_length, before_year, before_month, next_date, date_after}

pub year_more : (y : ℕ) → before_year (y + 1) ≡ before_year y + year_length y
unfolding before_year
year_more y = let next : y + 1 ≡ suc y = omega arith in ap before_year next

pub year_none : before_year 0 ≡ 0
unfolding before_year
year_none = refl

month_suc : (y k : ℕ) → before_month y (suc k) ≡ before_month y k + month_length y (k + 1)
unfolding before_month
month_suc y k = refl

pub month_more : (y m : ℕ) → 1 ≤ m → before_month y (m + 1 - 1) ≡ before_month y (m - 1) + month_length y m
month_more y m h =
    let next : m + 1 - 1 ≡ suc (m - 1) = omega (arith, h) in
    let this : m - 1 + 1 ≡ m = omega (arith, h) in
    ap (before_month y) next ∙ month_suc y (m - 1) ∙ ap (λ k. before_month y (m - 1) + month_length y k) this

pub month_none : (y : ℕ) → before_month y 0 ≡ 0
unfolding before_month
month_none y = refl

pub day_more : (d : Date) (n : ℕ) → date_after d (n + 1) ≡ next_date (date_after d n)
unfolding date_after
day_more d n = let next : n + 1 ≡ suc n = omega arith in ap (date_after d) next

pub day_none : (d : Date) → date_after d 0 ≡ d
unfolding date_after
day_none d = refl
