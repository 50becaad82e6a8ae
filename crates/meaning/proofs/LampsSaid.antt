-- The lamps as LAMP says them, by their places: how many there are, what is said of each, and one more of them.
-- Assumes nothing.
use Rattle.std.specs.List.{list_all}
use Rattle.std.proofs.Common.{ℕ, zero, suc, ◌+◌, ◌<◌, ◌≡◌, refl, sym, ap, Bool, true, false, ◌&&◌, List, [], ◌∷◌}
use Rattle.std.proofs.Common.{◌++◌, arith, length, slice_index_or, take}
use Rattle.text.proofs.FlagsTold.{raised_at}
use Rattle.text.proofs.Choices.{both, both_left, both_right}
use Rattle.words.specs.declared.lamp.LampHours.{LampHours}
use Rattle.meaning.specs.Meaning.{lamp_said, lamps_said}

never_lit : (lit : Bool) → (lit && false) ≡ false
never_lit lit = grind arith

module _ (lit : Bool) where
  pub none_said : (ms : List Bool) → lamps_said lit ms [] ≡ []
  unfolding lamps_said
  none_said ms = grind arith

  pub length-lamps_said : (ms : List Bool) (xs : List ℕ) → length (lamps_said lit ms xs) ≡ length xs
  unfolding lamps_said
  length-lamps_said [] [] = refl
  length-lamps_said (m ∷ ms) [] = refl
  length-lamps_said [] (x ∷ xs) = ap suc (length-lamps_said [] xs)
  length-lamps_said (m ∷ ms) (x ∷ xs) = ap suc (length-lamps_said ms xs)

  pub said_at : (ms : List Bool) (xs : List ℕ) (k : ℕ) (d : LampHours) → k < length xs
      → slice_index_or (lamps_said lit ms xs) k d ≡ lamp_said (lit && slice_index_or ms k false) (slice_index_or xs k 0)
  unfolding lamps_said
  said_at [] [] k d h = absurd (omega arith)
  said_at (m ∷ ms) [] k d h = absurd (omega arith)
  said_at [] (x ∷ xs) zero d h = ap (λ (t : Bool). lamp_said t x) (sym (never_lit lit))
  said_at [] (x ∷ xs) (suc k) d h = said_at [] xs k d (omega arith)
  said_at (m ∷ ms) (x ∷ xs) zero d h = refl
  said_at (m ∷ ms) (x ∷ xs) (suc k) d h = said_at ms xs k d (omega arith)

  one_more : (ms : List Bool) (xs : List ℕ) (k : ℕ) → k < length xs
      → lamps_said lit ms (take (suc k) xs)
      ≡ lamps_said lit ms (take k xs) ++ (lamp_said (lit && slice_index_or ms k false) (slice_index_or xs k 0) ∷ [])
  unfolding lamps_said
  one_more [] [] k h = absurd (omega arith)
  one_more (m ∷ ms) [] k h = absurd (omega arith)
  one_more [] (x ∷ xs) zero h = ap (λ (t : Bool). lamp_said t x ∷ []) (sym (never_lit lit))
  one_more [] (x ∷ xs) (suc k) h = ap (λ (ls : List LampHours). lamp_said false x ∷ ls) (one_more [] xs k (omega arith))
  one_more (m ∷ ms) (x ∷ xs) zero h = refl
  one_more (m ∷ ms) (x ∷ xs) (suc k) h = grind (arith, one_more ms xs k (omega arith))

  pub one_more_said : (ms : List Bool) (xs : List ℕ) (k : ℕ) → k < length xs
      → lamps_said lit ms (take (k + 1) xs)
      ≡ lamps_said lit ms (take k xs) ++ (lamp_said (lit && slice_index_or ms k false) (slice_index_or xs k 0) ∷ [])
  one_more_said ms xs k h = grind (arith, one_more)

  -- what holds of each lamp, lit or not, holds of what is said
  pub list_all-lamps_said : (f : ℕ → Bool) (g : LampHours → Bool) →
      ((t : Bool) (x : ℕ) → f x ≡ true → g (lamp_said t x) ≡ true)
      → (ms : List Bool) (xs : List ℕ) → list_all f xs ≡ true → list_all g (lamps_said lit ms xs) ≡ true
  unfolding lamps_said
  list_all-lamps_said f g h [] [] e = refl
  list_all-lamps_said f g h (m ∷ ms) [] e = refl
  list_all-lamps_said f g h [] (x ∷ xs) e =
      both (h false x (both_left (f x) (list_all f xs) e))
      (list_all-lamps_said f g h [] xs (both_right (f x) (list_all f xs) e))
  list_all-lamps_said f g h (m ∷ ms) (x ∷ xs) e =
      both (h (lit && m) x (both_left (f x) (list_all f xs) e))
      (list_all-lamps_said f g h ms xs (both_right (f x) (list_all f xs) e))

-- with the marks told
pub ruleset lamps_one_by_one = (none_said, one_more_said, raised_at)
