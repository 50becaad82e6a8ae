-- Runs of stores, `sets l i vs`: one after the other, one byte more, and at the start of lent memory.
-- None but the last asks for room.
-- Assumes nothing.
use Rattle.std.proofs.Common.{◌≡◌, sym, ap, ◌∙◌, List, [], ◌∷◌, ◌++◌, ℕ, suc, ◌+◌, ◌≤◌, ◌<◌, add-zero, add-suc, suc-add}
use Rattle.std.proofs.Common.{add-one, arith, length, slice_index_or, set, take, take-suc, length-take-le}
use Rattle.std.proofs.Math.Seq.{sets, sets-eq}
use Rattle.text.specs.Words.{over}

pub sets-append {ℓ} : {A : Type ℓ} (l : List A) (i : ℕ) (xs ys : List A)
    → sets (sets l i xs) (i + length xs) ys ≡ sets l i (xs ++ ys)
sets-append {A = A} l i [] ys = ap (λ (k : ℕ). sets l k ys) (add-zero i)
sets-append {A = A} l i (x ∷ xs) ys =
    ap (λ (k : ℕ). sets (sets (set l i x) (suc i) xs) k ys) (add-suc i (length xs) ∙ sym (suc-add i (length xs)))
    ∙ sets-append (set l i x) (suc i) xs ys

-- a store after a run of them
pub sets_snoc {ℓ} : {A : Type ℓ} (l : List A) (i : ℕ) (xs : List A) (v : A) {m : List A} {r : ℕ} → m ≡ sets l i xs
    → r ≡ i + length xs
    → set m r v ≡ sets l i (xs ++ (v ∷ []))
sets_snoc {A = A} l i xs v {m} {r} e f =
    ap (λ (q : List A). set q r v) e ∙ ap (λ (k : ℕ). set (sets l i xs) k v) f ∙ sets-append l i xs (v ∷ [])

-- a run after a run
pub sets_then {ℓ} : {A : Type ℓ} (l : List A) (i : ℕ) (xs ys : List A) {m : List A} {r : ℕ} → m ≡ sets l i xs
    → r ≡ i + length xs
    → sets m r ys ≡ sets l i (xs ++ ys)
sets_then {A = A} l i xs ys {m} {r} e f = (λ j. sets (e j) (f j) ys) ∙ sets-append l i xs ys

-- one turn of a loop that copies src, element by element
pub sets_more {ℓ} : {A : Type ℓ} (l : List A) (at : ℕ) (src : List A) (i : ℕ) (d : A) {m : List A} → i < length src
    → m ≡ sets l at (take i src)
    → set m (at + i) (slice_index_or src i d) ≡ sets l at (take (i + 1) src)
sets_more {A = A} l at src i d h e =
    sets_snoc l at (take i src) (slice_index_or src i d) e
    (ap (λ (k : ℕ). at + k) (sym (length-take-le i src (omega arith))))
    ∙ ap (sets l at) (sym (ap (λ (k : ℕ). take k src) (add-one i) ∙ take-suc src i d h))

-- a reply that fits, stored from the first byte on
pub sets_over : (r m : List ℕ) → length r ≤ length m → sets m 0 r ≡ over r m
sets_over r m h = grind (arith, sets-eq)
