-- Stretches are in order, apart, and none is empty.
-- Assumes nothing.
use Rattle.std.proofs.Common.{ℕ, suc, ◌≤◌, ◌<◌, Bool, true, false, List, [], ◌∷◌, arith}
use Rattle.stretches.specs.Stretches.{Stretch, stretches_from, stretches_of, InOrder, no_more, and_then}

sooner : {m n : ℕ} {ss : List Stretch} → m ≤ n → InOrder n ss → InOrder m ss
sooner h no_more = no_more
sooner {m} h (and_then {s = s} a b c) = let first : m ≤ s.from = omega arith in and_then first b c

-- where one has begun, and has a second; and where none has
mutual_apart : (ls : List Bool) (f t : ℕ)
    → ((n : ℕ) → n ≤ f → f < t → InOrder n (stretches_from true f t ls)) × InOrder t (stretches_from false f t ls)
mutual_apart [] f t = ((λ n h k. and_then h k no_more), no_more)
mutual_apart (true ∷ ls) f t = grind (arith, mutual_apart ls f (suc t), mutual_apart ls t (suc t))
mutual_apart (false ∷ ls) f t = (
  (λ n h k. and_then h k (mutual_apart ls f (suc t)).1),
  sooner (omega arith) (mutual_apart ls f (suc t)).1,
)

pub in_order : (ls : List Bool) → InOrder 0 (stretches_of ls)
in_order ls = (mutual_apart ls 0 0).1
