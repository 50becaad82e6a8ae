-- A promise of ours is an equation for the result and, where memory is lent, one for its bytes: it leaves one answer.
-- Assumes nothing.
use Rattle.std.proofs.Common.{ℕ, ◌≡◌, sym, ◌∙◌, List}

pub one_result : {R : Type 0} {promised r s : R} → r ≡ promised → s ≡ promised → r ≡ s
one_result p q = p ∙ sym q

-- the result r and the lent bytes m that a call leaves, against those promised
pub record Left {R : Type 0} (result : R) (bytes : List ℕ) (r : R) (m : List ℕ) : Type 0 where
  pub told : r ≡ result
  pub memory : m ≡ bytes

pub one_left : {R : Type 0} {result : R} {bytes : List ℕ} {r s : R} {m n : List ℕ}
    → Left result bytes r m → Left result bytes s n → (r ≡ s) × (m ≡ n)
one_left p q = (one_result p.told q.told, p.memory ∙ sym q.memory)
