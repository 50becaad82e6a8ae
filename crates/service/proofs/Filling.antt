-- A list that is filled from its first place on.
-- Assumes nothing.
use Rattle.std.proofs.Common.{ℕ, suc, ◌≡◌, ◌+◌, ◌<◌, List, [], ◌∷◌, ◌++◌, length, drop, sym, ap, ◌∙◌, add-one}
use Rattle.std.proofs.Common.{append_assoc, slice_index_or}
use Rattle.std.proofs.Math.ListN.{set}
use Rattle.std.proofs.Math.Seq.{drop-cons, set-append_seam}

-- one element more
pub set_next : {A : Type 0} (xs zs : List A) (i : ℕ) (z : A) → length xs ≡ i → i < length zs
    → set (xs ++ drop i zs) i z ≡ (xs ++ z ∷ []) ++ drop (i + 1) zs
set_next {A} xs zs i z e h =
    ap (λ (s : List A). set (xs ++ s) i z) (drop-cons zs i z h)
    ∙ ap (λ (k : ℕ). set (xs ++ slice_index_or zs i z ∷ drop (suc i) zs) k z) (sym e)
    ∙ set-append_seam xs (slice_index_or zs i z) (drop (suc i) zs) z
    ∙ ap (λ (k : ℕ). xs ++ z ∷ drop k zs) (sym (add-one i))
    ∙ sym (append_assoc xs (z ∷ []) (drop (i + 1) zs))
