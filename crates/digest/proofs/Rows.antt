-- Operations one after the other: a row is four of them, eight rows are two rounds, and two times two rounds are all.
-- Assumes nothing.
use Rattle.std.proofs.Common.{◌≡◌, ℕ, ◌+◌, List, refl, add-zero}
use Rattle.digest.specs.Rounds.{operation, operations}
use Rattle.digest.specs.declared.Buffer.{Buffer}

module _ (i : ℕ) (xs : List ℕ) (q : Buffer) where
  pub four_operations : {p₁ p₂ p₃ r : Buffer} → p₁ ≡ operation xs i q → p₂ ≡ operation xs (i + 1) p₁
      → p₃ ≡ operation xs (i + 2) p₂ → r ≡ operation xs (i + 3) p₃ → r ≡ operations i 4 xs q
  unfolding operations
  four_operations e₁ e₂ e₃ e₄ = cc (add-zero i)

  -- the eight rows from i on
  abbrev pub rows : Buffer
  rows =
      operations (i + 28) 4 xs (operations (i + 24) 4 xs (operations (i + 20) 4 xs (operations (i + 16) 4 xs
      (operations (i + 12) 4 xs (operations (i + 8) 4 xs (operations (i + 4) 4 xs (operations i 4 xs q)))))))

  module _ {p₁ p₂ p₃ p₄ p₅ p₆ p₇ r : Buffer} where
    pub eight_rows : p₁ ≡ operations i 4 xs q → p₂ ≡ operations (i + 4) 4 xs p₁ → p₃ ≡ operations (i + 8) 4 xs p₂
        → p₄ ≡ operations (i + 12) 4 xs p₃ → p₅ ≡ operations (i + 16) 4 xs p₄ → p₆ ≡ operations (i + 20) 4 xs p₅
        → p₇ ≡ operations (i + 24) 4 xs p₆ → r ≡ operations (i + 28) 4 xs p₇ → r ≡ rows
    eight_rows e₁ e₂ e₃ e₄ e₅ e₆ e₇ e₈ = cc

module _ (xs : List ℕ) (q : Buffer) where
  pub first_rows : rows 0 xs q ≡ operations 0 32 xs q
  unfolding operations
  first_rows = refl

  pub last_rows : rows 32 xs q ≡ operations 32 32 xs q
  unfolding operations
  last_rows = refl

  pub operations-operations : operations 32 32 xs (operations 0 32 xs q) ≡ operations 0 64 xs q
  unfolding operations
  operations-operations = refl
