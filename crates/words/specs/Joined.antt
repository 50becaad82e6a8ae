-- Lists: their values joined by single spaces (RULES, Commands: "lamps joined by spaces", "inputs .. joined by
-- spaces").
--   list_text text xs     the values xs joined, each in the text that our own side writes
--   JoinedBy W xs s       s is one or more values, joined, each in one of the forms that W has for it
--   list_read read n s       the values that all of s says, one to n of them
--   is_list legal n xs    xs are one to n values, each legal
--   WritesList W n xs s   s is a list, as JoinedBy has it, of at most n values
-- Assumes nothing.
use Rattle.std.specs.Prelude.{ℕ, zero, suc, ◌≡◌, ◌≤◌, Bool, ◌&&◌, List, [], ◌∷◌, ◌++◌, length}
use Rattle.std.specs.Prelude.{Option, Some, None, if◌then◌else◌, nat_le}
use Rattle.std.specs.List.{flat_map, list_all}
use Prim.Native.Char.{code}
use Rattle.text.specs.Words.{◌is◌}
use Rattle.words.specs.Codec.{◌>>=◌}

abbrev pub list_text : {A : Type 0} → (A → List ℕ) → List A → List ℕ
list_text text [] = []
list_text text (x ∷ xs) = text x ++ flat_map (λ y. code " " ∷ text y) xs

abbrev pub JoinedBy : {A : Type 0} → (A → List ℕ → Type 0) → List A → List ℕ → Type 0
JoinedBy W [] s = ⊥
JoinedBy W (x ∷ []) s = W x s
JoinedBy W (x ∷ y ∷ xs) s =
    (t : List ℕ) × (rest : List ℕ) × W x t × JoinedBy W (y ∷ xs) rest × (s ≡ t ++ code " " ∷ rest)

abbrev pub list_behind : {A : Type 0} → A → (List ℕ → Option (List A)) → List ℕ → Option (List A)
list_behind x more [] = Some (x ∷ [])
list_behind x more (b ∷ s) = if b is " " then (more s >>= λ xs. Some (x ∷ xs)) else None

abbrev pub list_read : {A : Type 0} → (List ℕ → Option (A × List ℕ)) → ℕ → List ℕ → Option (List A)
list_read read zero s = None
list_read read (suc n) s = read s >>= λ r. list_behind r.0 (list_read read n) r.1

abbrev pub is_list : {A : Type 0} → (A → Bool) → ℕ → List A → Bool
is_list legal n xs = nat_le 1 (length xs) && nat_le (length xs) n && list_all legal xs

abbrev pub WritesList : {A : Type 0} → (A → List ℕ → Type 0) → ℕ → List A → List ℕ → Type 0
WritesList W n xs s = (length xs ≤ n) × JoinedBy W xs s
