-- Things written one after the other: two lists, one thing more, how long, and what holds of every element.
-- Assumes nothing.
use Rattle.std.specs.List.{list_all}
use Rattle.std.proofs.Common.{ℕ, ◌+◌, ◌*◌, ◌<◌, ◌≡◌, refl, sym, ap, ◌∙◌, Bool, true, List, [], ◌∷◌, ◌++◌, append_assoc}
use Rattle.std.proofs.Common.{append-nil, mul-zero, mul-suc, add-one, arith, length, slice_index_or, take}
use Rattle.std.proofs.Common.{length-append, take-suc}
use Rattle.text.specs.InTurn.{each_in_turn}
use Rattle.text.proofs.Scanning.{list_all-append}

module _ {A B : Type 0} (w : A → List B) where
  pub turns_append : (xs ys : List A) → each_in_turn w (xs ++ ys) ≡ each_in_turn w xs ++ each_in_turn w ys
  turns_append [] ys = refl
  turns_append (x ∷ xs) ys =
      ap (λ (l : List B). w x ++ l) (turns_append xs ys)
      ∙ sym (append_assoc (w x) (each_in_turn w xs) (each_in_turn w ys))

  pub turns_snoc : (xs : List A) (y : A) → each_in_turn w (xs ++ (y ∷ [])) ≡ each_in_turn w xs ++ w y
  turns_snoc xs y = turns_append xs (y ∷ []) ∙ ap (λ (l : List B). each_in_turn w xs ++ l) (append-nil (w y))

  -- one turn of a loop over xs
  pub each_in_turn-take : (xs : List A) (i : ℕ) (d : A) → i < length xs
      → each_in_turn w (take (i + 1) xs) ≡ each_in_turn w (take i xs) ++ w (slice_index_or xs i d)
  each_in_turn-take xs i d h =
      ap (each_in_turn w) (ap (λ (k : ℕ). take k xs) (add-one i) ∙ take-suc xs i d h)
      ∙ turns_snoc (take i xs) (slice_index_or xs i d)

  pub length-each_in_turn : (n : ℕ) → ((x : A) → length (w x) ≡ n) → (xs : List A) →
      length (each_in_turn w xs) ≡ n * length xs
  length-each_in_turn n long [] = sym (mul-zero n)
  length-each_in_turn n long (x ∷ xs) =
      omega (
        arith,
        length-append (w x) (each_in_turn w xs),
        long x,
        length-each_in_turn n long xs,
        mul-suc n (length xs),
      )

  pub list_all-each_in_turn : (f : B → Bool) → ((x : A) → list_all f (w x) ≡ true) → (xs : List A)
      → list_all f (each_in_turn w xs) ≡ true
  list_all-each_in_turn f each [] = refl
  list_all-each_in_turn f each (x ∷ xs) =
      list_all-append f (w x) (each_in_turn w xs) (each x) (list_all-each_in_turn f each xs)
