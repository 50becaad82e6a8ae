-- Why a log is not read to its end.
-- Assumes nothing.
use Rattle.std.proofs.Common.{IfSome, IfErr, OnOk, is_ok, Result, Err, ◌≡◌, ◌≢◌, ◌<◌, ℕ, ◌≤◌, List, arith, length}
use Rattle.std.specs.declared.option.Option.{Option}
use Rattle.std.specs.declared.io.Error.{Error}
use Rattle.textio.specs.NextLine.{FailureComesOf}
use Rattle.textio.specs.declared.lines.Failure.{Failure}
use Rattle.textio.specs.declared.lines.Failure.TheVariants.{TooLong}

-- what holds of a log where it is known
pub each : (a : Option (List ℕ)) (P Q : List ℕ → Type 0) → ((log : List ℕ) → P log → Q log) → IfSome a P → IfSome a Q
each a P Q h g = grind arith

-- what follows where a call gave no error, where its error is made into another
pub both_mapped : {T U E F P Q R : Type 0} (r : Result T E) (s : Result U F) → is_ok s ≡ is_ok r → OnOk r P → OnOk r Q
    → (P → Q → R) → OnOk s R
both_mapped r s e p q h = grind arith

module _ (reads writes : Error → Type 0) (P : List ℕ → Type 0) where
  -- what is too long in one sense is in another
  pub comes_of : {Q : List ℕ → Type 0} (a : Option (List ℕ)) (f : Failure) → ((log : List ℕ) → P log → Q log)
      → FailureComesOf reads writes P a f → FailureComesOf reads writes Q a f
  comes_of a f h g = grind arith

  -- a log with fewer bytes than one that is too long is read to its end
  pub short_enough : {T : Type 0} (least : ℕ) → ((log : List ℕ) → P log → least ≤ length log) → (a : Option (List ℕ))
      (r : Result T Failure) → IfErr r (FailureComesOf reads writes P a)
      → IfSome a (λ log. length log < least → r ≢ Err TooLong)
  short_enough least h a r g = grind arith
