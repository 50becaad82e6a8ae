-- A list that is filled with what a function gives of each place.
--   IsPut f ys xs i    the first i places of xs have what f gives of each, and the others what ys has there
-- Assumes nothing.
use Rattle.std.proofs.lemmas.Grind.{common_steps}
use Rattle.std.proofs.Common.{ℕ, ◌≡◌, ◌+◌, ◌<◌, List, length, take, drop, subst, arith, map}
use Rattle.std.specs.List.{range_with_len}
use Rattle.std.proofs.Math.ListN.{set}
use Rattle.std.proofs.lemmas.List.{take_more_set, drop-set-lt, drop-drop}
use Rattle.std.proofs.lemmas.List.FromFn.{map-range_with_len_more}

module _ {X : Type 0} (f : ℕ → X) (ys : List X) where
  pub record IsPut (xs : List X) (i : ℕ) : Type 0 where
    pub filled : take i xs ≡ map f (range_with_len 0 i)
    pub rest : drop i xs ≡ drop i ys

  pub put_more : {xs : List X} {i : ℕ} {x : X} → IsPut xs i → x ≡ f i → i < length xs → IsPut (set xs i x) (i + 1)
  put_more {xs} {i} {x} put made inside =
      grind (arith, common_steps, set, take_more_set, map-range_with_len_more, drop-set-lt, drop-drop)

  pub put_all : {xs : List X} {i n : ℕ} → IsPut xs i → i ≡ n → IsPut xs n
  put_all {xs} put end = subst (IsPut xs) end put
