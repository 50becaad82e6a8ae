-- A comparison of two tables of lamp seconds in numbers, as the header has it (RULES, Service).
--   report_of c                 the number, whether a lamp went backwards, and the first place where one did
--   not_compared                what is returned for tables that are not compared
--   Compares es ls out r m      the report r and the list m are service's, of the readings of both tables
--   ComparesInto es ls out r m  of tables of one length they are; else 3, and the list out as it was
-- Assumes nothing.
use Rattle.std.specs.Prelude.{ℕ, ◌≡◌, ◌⊎◌, true, false, List, length, ℤ, Option, Some, None, Result, Ok, Err}
use Rattle.service.specs.ComparedHolds.{ComparedAs}
use Rattle.service.specs.declared.CompareError.{CompareError}
use Rattle.board.specs.Lists.{readings_in}
use Rattle.board.specs.declared.lamps.Comparison.{Comparison}

abbrev pub not_compared : Comparison
not_compared = record { number = 3; backwards = false; place = 0 }

abbrev pub report_of : Result (Option ℕ) CompareError → Comparison
report_of (Ok None) = record { number = 0; backwards = false; place = 0 }
report_of (Ok (Some k)) = record { number = 0; backwards = true; place = k }
report_of (Err _) = not_compared

module _ (es ls : List ℕ) (out : List ℤ) where
  abbrev pub Compares : Comparison → List ℤ → Type 0
  Compares r m =
      (c : Result (Option ℕ) CompareError) × ComparedAs (readings_in es ls) out c m × (r ≡ report_of c)

  abbrev pub ComparesInto : Comparison → List ℤ → Type 0
  ComparesInto r m =
      (length ls ≡ length es) × Compares r m ⊎ ¬ (length ls ≡ length es) × (r ≡ not_compared) × (m ≡ out)
