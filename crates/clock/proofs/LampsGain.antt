-- A lamp that burns n seconds: below the limit it gains n, past it nothing, else it stops there.
-- Assumes nothing.
use Rattle.std.proofs.Common.{ℕ, zero, suc, ◌+◌, ◌≤◌, ◌<◌, min, ◌≡◌, refl, ◌∙◌, ⊎_elim, add-zero, arith, lt-ltb, le-ltb}
use Rattle.record.specs.Limits.{lamp_limit}
use Rattle.clock.specs.Second.{times, one_more}
use Rattle.text.proofs.Orders.{le_or_lt}

pub gains : (n x : ℕ) → x + n ≤ lamp_limit → times one_more n x ≡ x + n
unfolding times one_more
gains zero x h = rw add-zero
gains (suc n) x h = rw (gains n x (omega arith), lt-ltb (x + n) lamp_limit (omega arith)) (omega arith)

pub stays : (n x : ℕ) → lamp_limit ≤ x → times one_more n x ≡ x
unfolding times one_more
stays zero x h = refl
stays (suc n) x h = rw (stays n x h, le-ltb x lamp_limit h)

pub stops : (n x : ℕ) → x ≤ lamp_limit → lamp_limit ≤ x + n → times one_more n x ≡ lamp_limit
unfolding times one_more
stops zero x h g = omega arith
stops (suc n) x h g =
    ⊎_elim (λ (l : lamp_limit ≤ x + n). rw (stops n x h l))
    (λ (l : x + n < lamp_limit). gains (suc n) x (omega arith) ∙ (omega arith))
    (le_or_lt lamp_limit (x + n))

-- in one: the sum, stopped at the limit
pub burns : (n x : ℕ) → x ≤ lamp_limit → times one_more n x ≡ min lamp_limit (x + n)
burns n x h = grind (arith, ⊎_elim, stops, gains, le_or_lt)
