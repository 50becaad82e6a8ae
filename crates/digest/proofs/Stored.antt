-- Stores over zeros from their start on, and stores up to an end.
-- Assumes nothing.
use Rattle.std.proofs.Common.{◌≡◌, ℕ, ◌+◌, ◌-◌, ◌≤◌, List, ◌++◌, length, take, replicate, ap, ◌∙◌, append-nil}
use Rattle.std.proofs.Common.{arith, length-append, take_at}
use Rattle.std.proofs.lemmas.List.{length-take-le, length-replicate, take-replicate, drop-replicate}
use Rattle.std.proofs.Math.Seq.{sets, sets-eq, take-append-add}
use Rattle.text.proofs.Stores.{sets_over}

pub take-sets_zeros : (n k : ℕ) (xs : List ℕ) → length xs ≤ k → k ≤ n
    → take k (sets (replicate n 0) 0 xs) ≡ xs ++ replicate (k - length xs) 0
take-sets_zeros n k xs h l =
    let over_zeros = sets_over xs (replicate n 0) (simp length-replicate (omega arith)) in
    let stored = over_zeros ∙ ap (λ (z : List ℕ). xs ++ z) (drop-replicate (length xs) n 0) in
    let split : k ≡ length xs + (k - length xs) = omega arith in
    let rest = take-replicate (k - length xs) (n - length xs) 0 (omega arith) in
    (λ i. take (split i) (stored i))
    ∙ take-append-add xs (replicate (n - length xs) 0) (k - length xs)
    ∙ ap (λ (z : List ℕ). xs ++ z) rest

pub take-sets_exactly : (n k : ℕ) (xs : List ℕ) → length xs ≡ k → k ≤ n → take k (sets (replicate n 0) 0 xs) ≡ xs
take-sets_exactly n k xs h l = grind (arith, take-sets_zeros, append-nil)

pub take-sets_end : (m vs : List ℕ) (i k : ℕ) → i + length vs ≡ k → k ≤ length m
    → take k (sets m i vs) ≡ take i m ++ vs
take-sets_end m vs i k e h = grind (arith, length-take-le, length-append, sets-eq, take_at)
