-- One step of a watched log, by what is seen of it: what is told of a lamp is what demand 3's history has of it.
-- Assumes nothing.
use Rattle.std.proofs.Common.{ℕ, zero, suc, ◌+◌, ◌≤◌, ◌≡◌, refl, Bool, false, not, ◌&&◌, List, ◌++◌, arith}
use Rattle.std.proofs.Common.{slice_index_or, replicate, nat_lt, ◌==◌, le-ltb, if◌then◌else◌}
use Rattle.record.specs.Wanted.{Wanted}
use Rattle.demands.specs.History.{HistoryEvent, switched, a_second}
use Rattle.demands.specs.History.{Stage, next_stage, is_burning_stage, stage_from, marks_after}
use Rattle.stretches.specs.Stretches.{Stretch, stretch_if, is_lit_then, seconds_lit_from}
use Rattle.stretches.proofs.Joined.{joined, since_none, joined-append, ends_here, cooling_dim}
use Rattle.stretches.proofs.Joined.{is_burning_stage-stage_from, seconds_lit_from-append}
use Rattle.stretches.proofs.CallsSeen.{Seen, nothing, time, power, mark}

-- a second counts for one exactly if it is lit
pub one_is : (b : Bool) → ((if b then 1 else 0) == 1) ≡ b
one_is b = grind arith

-- ---- one step, by what is seen of it

module _ (w : Wanted) (k : ℕ) where
  -- what is told with a step after which the clock stands at h, and what follows it
  abbrev turned : Stage → Stage → List Bool → ℕ → ℕ → List Bool → List Stretch
  turned g h ms f t ls =
      let b = is_burning_stage g in
      let c = is_burning_stage h in
      let from = if not b && c then t else f in
      stretch_if (b && not c && slice_index_or ms k false && nat_lt from t) from t
      ++ joined (is_lit_then h ms k) from t ls

  -- burning goes on, or does not begin
  unchanged : (g h : Stage) (ms : List Bool) (f t : ℕ) (ls : List Bool) → is_burning_stage h ≡ is_burning_stage g
      → turned g h ms f t ls ≡ joined (is_lit_then g ms k) f t ls
  unchanged g h ms f t ls e = grind arith

  none : (g : Stage) (ms : List Bool) (f t : ℕ) (ys : List HistoryEvent)
      → turned g g ms f t (seconds_lit_from w g ms k ys)
      ≡ joined (is_lit_then g ms k) f t (seconds_lit_from w g ms k ys)
  none g ms f t ys = unchanged g g ms f t (seconds_lit_from w g ms k ys) refl

  by_power : (g : Stage) (wanted : Bool) (ms : List Bool) (f t : ℕ) (ys : List HistoryEvent) → f ≤ t
      → let h = next_stage w g (switched wanted) in
      turned g h ms f t (seconds_lit_from w h ms k ys) ≡ joined (is_lit_then g ms k) f t (seconds_lit_from w h ms k ys)
  by_power g wanted ms f t ys h = grind (arith, le-ltb, since_none, one_is, ends_here, cooling_dim, none)

  marks_stay : (n : ℕ) (ms : List Bool) → marks_after ms (replicate n a_second) ≡ ms
  marks_stay zero ms = refl
  marks_stay (suc n) ms = marks_stay n ms

  pub by_seen : (g : Stage) (ms : List Bool) (n f t : ℕ) (xs ys : List HistoryEvent) → f ≤ t → Seen g n xs
      → let h = stage_from w g xs in
      let ns = marks_after ms xs in
      turned g h ns f (t + n) (seconds_lit_from w h ns k ys)
      ≡ joined (is_lit_then g ms k) f t (seconds_lit_from w g ms k (xs ++ ys))
  by_seen g ms n f t xs ys le (nothing e) = grind arith
  by_seen g ms n f t xs ys le time =
      grind (arith, is_burning_stage-stage_from, marks_stay, unchanged, joined-append, joined, seconds_lit_from-append)
  by_seen g ms n f t xs ys le (power wanted e) = grind (arith, by_power)
  by_seen g ms n f t xs ys le (mark lamp to off e) = grind arith
