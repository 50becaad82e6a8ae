-- A part of a list, as code lends it: the first bytes of what is left, and all that is left.
-- Assumes nothing.
use Rattle.std.proofs.Common.{ℕ, zero, suc, ◌-◌, ◌≡◌, sym, ap, List, [], ◌∷◌, arith, take, drop}
use Rattle.std.proofs.Math.Nat.{sub-zero}
use Rattle.std.proofs.Math.Seq.{take-nil}

pub drop-take : (a b : ℕ) (s : List ℕ) → drop a (take b s) ≡ take (b - a) (drop a s)
drop-take zero b s = ap (λ (k : ℕ). take k s) (sym (sub-zero b))
drop-take (suc a) zero s = let none : 0 - suc a ≡ 0 = omega arith in sym (ap (λ (k : ℕ). take k (drop (suc a) s)) none)
drop-take (suc a) (suc b) [] = sym (take-nil (suc b - suc a))
drop-take (suc a) (suc b) (x ∷ s) = grind (arith, drop-take a b s)

pub first_part : (s : List ℕ) (n : ℕ) → take (n - 0) s ≡ take n s
first_part s n = ap (λ (k : ℕ). take k s) (sub-zero n)
