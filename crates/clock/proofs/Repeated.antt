-- A step taken a times and then b times is taken a + b times; what one step keeps, n steps
-- keep; what commutes with one step commutes with n of them.
-- Assumes nothing.
use Rattle.std.proofs.Common.{ℕ, zero, suc, ◌+◌, ◌≡◌, refl, ap, ◌∙◌, add-zero, add-suc}
use Rattle.clock.specs.Second.{times}

pub times-add : {A : Type 0} (f : A → A) (a b : ℕ) (x : A) → times f (a + b) x ≡ times f b (times f a x)
unfolding times
times-add f a zero x = rw add-zero
times-add f a (suc b) x = rw add-suc (ap f (times-add f a b x))

pub times_keeps : {A : Type 0} (P : A → Type 0) (f : A → A) → ((x : A) → P x → P (f x)) → (n : ℕ) (x : A) → P x
    → P (times f n x)
unfolding times
times_keeps P f k zero x p = p
times_keeps P f k (suc n) x p = k (times f n x) (times_keeps P f k n x p)

pub times_commute : {A : Type 0} (f g : A → A) → ((x : A) → f (g x) ≡ g (f x)) → (n : ℕ) (x : A)
    → times f n (g x) ≡ g (times f n x)
unfolding times
times_commute f g e zero x = refl
times_commute f g e (suc n) x = ap f (times_commute f g e n x) ∙ e (times f n x)

pub times_stays : {A : Type 0} (f : A → A) (x : A) → f x ≡ x → (n : ℕ) → times f n x ≡ x
unfolding times
times_stays f x e zero = refl
times_stays f x e (suc n) = rw (times_stays f x e n) e
