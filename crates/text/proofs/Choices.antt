-- What holds of a choice: by its test, or of both its sides.
-- Assumes nothing.
use Rattle.std.proofs.Common.{arith, ◌≡◌, refl, ap, Bool, true, false, ◌&&◌, if◌then◌else◌}

module _ {A : Type 0} where
  pub if_yes : {t : Bool} (a b : A) → t ≡ true → (if t then a else b) ≡ a
  if_yes a b e = ap (λ (t : Bool). if t then a else b) e

  pub if_no : {t : Bool} (a b : A) → t ≡ false → (if t then a else b) ≡ b
  if_no a b e = ap (λ (t : Bool). if t then a else b) e

  pub if_all : (P : A → Type 0) (t : Bool) {a b : A} → P a → P b → P (if t then a else b)
  if_all P true p q = p
  if_all P false p q = q

  pub if_by : (P : A → Type 0) (t : Bool) {a b : A} → (t ≡ true → P a) → (t ≡ false → P b) → P (if t then a else b)
  if_by P true p q = p refl
  if_by P false p q = q refl

-- a conjunction that holds, taken apart and put together
pub both_left : (a b : Bool) → (a && b) ≡ true → a ≡ true
both_left a b h = grind arith

pub both_right : (a b : Bool) → (a && b) ≡ true → b ≡ true
both_right a b h = grind arith

pub both : {a b : Bool} → a ≡ true → b ≡ true → (a && b) ≡ true
both {a} {b} p q = (λ i. p i && q i)

-- two tests that hold together are one
pub alike : (a b : Bool) → (a ≡ true → b ≡ true) → (b ≡ true → a ≡ true) → a ≡ b
alike a b h g = grind arith

-- a test that does not hold, by what would follow if it did
pub by_not : (b : Bool) → (b ≡ true → ⊥) → b ≡ false
by_not b h = grind arith
