-- Stretches, second by second and switch by switch, where one may be under way that has no second yet.
--   joined lit f t ls    the stretches from the second t on, where the lamp is lit since f if `lit`
--   Dim ls               the first of the seconds ls is not lit
-- Assumes nothing.
use Rattle.std.proofs.Common.{ℕ, zero, suc, ◌+◌, ◌≤◌, ◌≡◌, refl, sym, ap, Bool, true, false, ◌&&◌, List, []}
use Rattle.std.proofs.Common.{◌∷◌, ◌++◌, add-zero, arith, replicate, nat_lt}
use Rattle.record.specs.Wanted.{Wanted}
use Rattle.demands.specs.History.{HistoryEvent, switched, a_second, mark_switched, Stage, towards, next_stage}
use Rattle.demands.specs.History.{marks_next}
use Rattle.demands.specs.History.{is_burning_stage, stage_from}
use Rattle.stretches.specs.Stretches.{Stretch, stretch_if, stretches_from, is_lit_then, seconds_lit_from}

abbrev pub joined : Bool → ℕ → ℕ → List Bool → List Stretch
joined lit f t ls = stretches_from (lit && nat_lt f t) f t ls

-- where none is under way it does not matter since when
pub since_none : (ls : List Bool) (f g t : ℕ) → stretches_from false f t ls ≡ stretches_from false g t ls
since_none [] f g t = refl
since_none (true ∷ ls) f g t = refl
since_none (false ∷ ls) f g t = since_none ls f g (suc t)

pub joined-append : (n : ℕ) (lit : Bool) (f t : ℕ) (ls : List Bool) → f ≤ t
    → joined lit f t (replicate n lit ++ ls) ≡ joined lit f (t + n) ls
joined-append zero lit f t ls h = ap (λ (u : ℕ). joined lit f u ls) (sym (add-zero t))
joined-append (suc n) lit f t ls h = grind (arith, joined-append n lit f (suc t) ls (omega arith))

abbrev pub Dim : List Bool → Type 0
Dim [] = Unit {0}
Dim (b ∷ ls) = b ≡ false

-- a stretch that ends here
pub ends_here : (lit : Bool) (f t : ℕ) (ls : List Bool) → Dim ls
    → stretches_from lit f t ls ≡ stretch_if lit f t ++ stretches_from false f t ls
ends_here lit f t ls h = grind arith

-- ---- the outsider's seconds

-- while it cools nothing is lit
pub cooling_dim : (w : Wanted) (ms : List Bool) (k n : ℕ) (es : List HistoryEvent)
    → Dim (seconds_lit_from w (towards false n) ms k es)
cooling_dim w ms k n [] = tt
cooling_dim w ms k n (a_second ∷ es) = refl
cooling_dim w ms k n (switched wanted ∷ es) = cooling_dim w ms k n es
cooling_dim w ms k n (mark_switched lamp mark ∷ es) = cooling_dim w (marks_next ms (mark_switched lamp mark)) k n es

pub is_burning_stage-stage_from : (n : ℕ) (w : Wanted) (g : Stage) →
    is_burning_stage (stage_from w g (replicate n a_second)) ≡ is_burning_stage g
is_burning_stage-stage_from zero w g = refl
is_burning_stage-stage_from (suc n) w g = grind (arith, is_burning_stage-stage_from n w (next_stage w g a_second))

pub seconds_lit_from-append : (n : ℕ) (w : Wanted) (g : Stage) (ms : List Bool) (k : ℕ) (es : List HistoryEvent)
    → seconds_lit_from w g ms k (replicate n a_second ++ es)
    ≡ replicate n (is_lit_then g ms k) ++ seconds_lit_from w (stage_from w g (replicate n a_second)) ms k es
seconds_lit_from-append zero w g ms k es = refl
seconds_lit_from-append (suc n) w g ms k es =
    grind (arith, seconds_lit_from-append n w (next_stage w g a_second) ms k es)
