-- What a reader of the code returns (RULES, Stored form).
--   Reads view r left read    what was returned, seen by view, and the bytes that are left, are what reading gives:
--                             where the bytes end before the field does, they are cut short
-- Assumes nothing.
use Rattle.std.specs.Prelude.{◌≡◌, ℕ, List, Option, Some, None, Result, Ok, Err}
use Rattle.stored.specs.declared.error.LoadError.{LoadError}
use Rattle.stored.specs.declared.error.LoadError.TheVariants.{CutShort}

abbrev pub Reads : {X Y : Type 0} → (X → Y) → Result X LoadError → List ℕ → Option (Y × List ℕ) → Type 0
Reads view (Ok x) left read = read ≡ Some (view x, left)
Reads view (Err e) left read = (e ≡ CutShort) × (read ≡ None)
