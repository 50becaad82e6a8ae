-- The lengths of the stretches add up to the lit seconds, and these are what demand 3 counts as burning.
-- Assumes nothing.
use Rattle.std.proofs.Common.{ℕ, suc, ◌+◌, ◌-◌, ◌≤◌, ◌≡◌, refl, ◌∙◌, Bool, true, false, List, [], ◌∷◌, ◌++◌, arith}
use Rattle.std.proofs.Common.{if◌then◌else◌}
use Rattle.record.specs.Wanted.{Wanted}
use Rattle.demands.specs.History.{marks_next, HistoryEvent, Stage, next_stage, burning_from}
use Rattle.demands.specs.CountsSeconds.{count_set}
use Rattle.stretches.specs.Stretches.{Stretch, stretches_from, stretches_of, lengths_of, seconds_lit_from}

pub lengths_of-append : (xs ys : List Stretch) → lengths_of (xs ++ ys) ≡ lengths_of xs + lengths_of ys
lengths_of-append [] ys = omega arith
lengths_of-append (s ∷ xs) ys = let rest = lengths_of-append xs ys in omega arith

lengths_of-stretches_from : (ls : List Bool) (lit : Bool) (f t : ℕ) → f ≤ t
    → lengths_of (stretches_from lit f t ls) ≡ (if lit then t - f else 0) + count_set ls
lengths_of-stretches_from [] lit f t h = grind arith
lengths_of-stretches_from (true ∷ ls) lit f t h =
    grind (arith, lengths_of-stretches_from ls true f (suc t), lengths_of-stretches_from ls true t (suc t))
lengths_of-stretches_from (false ∷ ls) lit f t h = grind (arith, lengths_of-stretches_from ls false f (suc t))

pub lengths_lit : (ls : List Bool) → lengths_of (stretches_of ls) ≡ count_set ls
lengths_lit ls = lengths_of-stretches_from ls false 0 0 (omega arith) ∙ omega arith

pub lit_burns : (w : Wanted) (g : Stage) (ms : List Bool) (k : ℕ) (es : List HistoryEvent)
    → count_set (seconds_lit_from w g ms k es) ≡ burning_from w g ms k es
lit_burns w g ms k [] = refl
lit_burns w g ms k (e ∷ es) = grind (arith, lit_burns w (next_stage w g e) (marks_next ms e) k es)
