-- Things joined by spaces: what holds of every byte, and how many bytes they are.
-- Assumes nothing.
use Rattle.std.proofs.lemmas.Grind.{common_steps}
use Rattle.std.proofs.Common.{ℕ, suc, ◌+◌, ◌*◌, ◌≤◌, ◌≡◌, refl, Bool, true, List, [], ◌∷◌, arith, length, length-append}
use Prim.Native.Char.{code}
use Rattle.std.specs.List.{flat_map, list_all}
use Rattle.text.proofs.Choices.{both, both_left, both_right}
use Rattle.text.proofs.Scanning.{list_all-append}
use Rattle.words.specs.Joined.{list_text}

module _ {A : Type 0} (w : A → List ℕ) (P : A → Bool) where
  abbrev behind_space : A → List ℕ
  behind_space x = code " " ∷ w x

  -- what holds of each byte of each thing, and of a space, holds of each byte
  module _ (f : ℕ → Bool) (each : (a : A) → P a ≡ true → list_all f (w a) ≡ true) (space : f (code " ") ≡ true) where
    spaced_every : (xs : List A) → list_all P xs ≡ true → list_all f (flat_map behind_space xs) ≡ true
    spaced_every [] e = refl
    spaced_every (x ∷ xs) e = grind (arith, list_all-append, spaced_every xs (both_right (P x) (list_all P xs) e))

    pub list_all-list_text : (xs : List A) → list_all P xs ≡ true → list_all f (list_text w xs) ≡ true
    list_all-list_text xs h = grind (arith, both_right, spaced_every, both, both_left, length-append, list_all-append)

  -- things of at most n bytes each, with a space after each but the last
  module _ (n : ℕ) (short : (a : A) → P a ≡ true → length (w a) ≤ n) where
    spaced_long : (xs : List A) → list_all P xs ≡ true → length (flat_map behind_space xs) ≤ suc n * length xs
    spaced_long [] e = omega arith
    spaced_long (x ∷ xs) e = grind (arith, length-append, spaced_long xs (both_right (P x) (list_all P xs) e))

    pub joined_long : (xs : List A) → list_all P xs ≡ true → 1 ≤ length xs
        → length (list_text w xs) + 1 ≤ suc n * length xs
    joined_long xs h g = grind (arith, common_steps, spaced_long)
