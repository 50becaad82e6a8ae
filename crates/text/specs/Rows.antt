-- Tables of refusals (RULES, The numbers a call gives): the first row that applies decides.
--   e when t                    the row of the refusal e, which applies where t holds; e is a number, or an error
--   first_of rows               the number of the first row that applies, and 0 where none does
--   numbers_of why rows         the same rows with the number that `why` gives each error
--   by_rows rows refuse done    what is refused with that row; what is done where no row applies
--   NoneOf rows                 no row applies
-- Assumes nothing.
use Rattle.std.specs.Prelude.{ℕ, ◌≡◌, Bool, false, List, [], ◌∷◌, if◌then◌else◌}

infix 30 ◌when◌
pub record RefusalRow (E : Type 0) : Type 0 where
  pub refusal : E
  pub applies : Bool

abbrev pub ◌when◌ : {E : Type 0} → E → Bool → RefusalRow E
e when t = record { refusal = e; applies = t }

abbrev pub first_of : List (RefusalRow ℕ) → ℕ
first_of [] = 0
first_of (row ∷ rows) = if row.applies then row.refusal else first_of rows

abbrev pub numbers_of : {E : Type 0} → (E → ℕ) → List (RefusalRow E) → List (RefusalRow ℕ)
numbers_of why [] = []
numbers_of why (row ∷ rows) = (why row.refusal when row.applies) ∷ numbers_of why rows

abbrev pub by_rows : {E R : Type 0} → List (RefusalRow E) → (E → R) → R → R
by_rows [] refuse done = done
by_rows (row ∷ rows) refuse done = if row.applies then refuse row.refusal else by_rows rows refuse done

abbrev pub NoneOf : {E : Type 0} → List (RefusalRow E) → Type 0
NoneOf [] = Unit {0}
NoneOf (row ∷ rows) = (row.applies ≡ false) × NoneOf rows
