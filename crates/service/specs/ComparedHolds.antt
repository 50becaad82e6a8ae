-- What each answer of the comparison says of the readings, apart from how it is found. Exactly one answer is true
-- (src/theorems, the_answer_told_holds).
--   IsFirstBack rs k             at the index k the lamp went backwards, and at none before it
--   IsComparable rs room         there are no more readings than a table may have, and room for as many differences
--   ComparedHolds rs room c      what the answer c says, with room for this many differences
--   ComparedAs rs out c m        the result of a comparison into the list out: the answer c, and the list m that out
--                                then is
-- Assumes nothing.
use Rattle.std.specs.Prelude.{ℕ, ◌<◌, ◌≤◌, ◌≡◌, List, ◌++◌, ℤ, length, drop, All, Option, Some, None, Result}
use Rattle.std.specs.Prelude.{Ok, Err, OnOk, OnErr}
use Rattle.std.specs.List.{AllWithin, HoldsAt}
use Rattle.service.specs.Differences.{IsBackwards, IsForwards, differences}
use Rattle.service.specs.declared.LampSeconds.{LampSeconds}
use Rattle.service.specs.declared.TheConstants.{TABLE_MOST}
use Rattle.service.specs.declared.CompareError.{CompareError}
use Rattle.service.specs.declared.CompareError.TheVariants.{TooMany, NoRoom}

pub record IsFirstBack (rs : List LampSeconds) (k : ℕ) : Type 0 where
  pub inside : k < length rs
  pub back : HoldsAt IsBackwards rs k
  pub kept : AllWithin IsForwards rs 0 k

pub record IsComparable (rs : List LampSeconds) (room : ℕ) : Type 0 where
  pub few : length rs ≤ TABLE_MOST
  pub fits : length rs ≤ room

module _ (rs : List LampSeconds) (room : ℕ) where
  abbrev pub ComparedHolds : Result (Option ℕ) CompareError → Type 0
  ComparedHolds (Ok None) = IsComparable rs room × All IsForwards rs
  ComparedHolds (Ok (Some k)) = IsComparable rs room × IsFirstBack rs k
  ComparedHolds (Err TooMany) = TABLE_MOST < length rs
  ComparedHolds (Err NoRoom) = (length rs ≤ TABLE_MOST) × (room < length rs)

pub record ComparedAs (rs : List LampSeconds) (out : List ℤ) (c : Result (Option ℕ) CompareError) (m : List ℤ)
    : Type 0 where
  pub told : ComparedHolds rs (length out) c
  pub written : OnOk c (m ≡ differences rs ++ drop (length rs) out)
  pub kept : OnErr c (m ≡ out)
