-- The calls over lists leave one result each, the lent list included, and the numbers of a day call are those of one
-- verdict, of one answer of the planner.
-- Assumes nothing.
use Rattle.std.proofs.Common.{[], ◌∷◌, ℕ, ◌≡◌, ◌≤◌, List, Ok, Err, Result, if◌then◌else◌, sym, ap, ◌∙◌, length, arith}
use Rattle.std.proofs.Common.{◌==◌, ℤ}
use Rattle.std.proofs.lemmas.List.{length-map}
use Rattle.std.proofs.lemmas.List.FromFn.{length-map-range_with_len}
use Rattle.day.specs.declared.Placement.{Placement}
use Rattle.day.specs.declared.check.CheckError.{CheckError}
use Rattle.day.specs.declared.check.CheckError.TheVariants.{OutOfRange, NoRig, TooEarly, Clash, Spent}
use Rattle.day.specs.declared.plan.PlanError.{PlanError}
use Rattle.day.specs.declared.plan.PlanError.TheVariants.{OutOfRange as NoDay, NoRig as Unplaced}
use Rattle.day.proofs.OneVerdict.{one_verdict}
use Rattle.day.proofs.OnePlan.{one_plan}
use Rattle.service.proofs.OneAnswer.{one_comparison}
use Rattle.board.specs.Lists.{Lists}
use Rattle.board.specs.Days.{flat_verdict, flat_plan, ChecksInto, Plans, PlansInto}
use Rattle.board.specs.Lamps.{not_compared, ComparesInto}
use Rattle.board.specs.declared.days.FlatVerdict.{FlatVerdict}
use Rattle.board.specs.declared.days.FlatPlan.{FlatPlan}
use Rattle.board.specs.declared.lamps.Comparison.{Comparison}

-- the verdict that its numbers tell
abbrev verdict_from : FlatVerdict → Result (Unit {0}) CheckError
verdict_from f =
    if f.number == 3 then Err OutOfRange
    else if f.rule == 0 then Ok tt
    else if f.rule == 1 then Err (NoRig f.first)
    else if f.rule == 2 then Err (TooEarly f.first)
    else if f.rule == 3 then Err (Clash f.first f.second)
    else Err (Spent f.first)

verdict_told : (v : Result (Unit {0}) CheckError) → verdict_from (flat_verdict v) ≡ v
verdict_told v = grind arith

pub flat_verdict_back : (v w : Result (Unit {0}) CheckError) → flat_verdict v ≡ flat_verdict w → v ≡ w
flat_verdict_back v w e = sym (verdict_told v) ∙ ap verdict_from e ∙ verdict_told w

abbrev plan_from : FlatPlan → Result (Unit {0}) PlanError
plan_from f = if f.number == 3 then Err NoDay else if f.planned then Ok tt else Err (Unplaced f.job)

plan_told : (p : Result (Unit {0}) PlanError) → plan_from (flat_plan p) ≡ p
plan_told p = grind arith

pub flat_plan_back : (p q : Result (Unit {0}) PlanError) → flat_plan p ≡ flat_plan q → p ≡ q
flat_plan_back p q e = sym (plan_told p) ∙ ap plan_from e ∙ plan_told q

pub one_flat_verdict : (l : Lists) (a : List ℕ) (r s : FlatVerdict) → ChecksInto l a r → ChecksInto l a s → r ≡ s
one_flat_verdict l a r s (v, p, e) (w, q, f) = grind (arith, one_verdict)

pub one_flat_plan : (l : Lists) (out : List ℕ) (r s : FlatPlan) (m n : List ℕ) → PlansInto l out r m
    → PlansInto l out s n → (r ≡ s) × (m ≡ n)
one_flat_plan l out r s m n (p, x, e, f) (q, y, g, h) = grind (arith, one_plan)

pub one_report : (es ls : List ℕ) (out : List ℤ) (r s : Comparison) (m n : List ℤ) → ComparesInto es ls out r m
    → ComparesInto es ls out s n → (r ≡ s) × (m ≡ n)
one_report es ls out r s m n h g = grind (arith, one_comparison)

-- what is planned has one rig for each place of the list of starts
pub plan_fits : (l : Lists) (room : ℕ) (ps : List Placement) → Plans l room (Ok ps) → length ps ≤ room
plan_fits l room ps h = grind (arith, length-map, length-map-range_with_len)

-- a later table with one place more is not compared
pub one_place_short : (out : List ℤ) (r : Comparison) (m : List ℤ) → ComparesInto (1 ∷ []) (1 ∷ 2 ∷ []) out r m
    → (r ≡ not_compared) × (m ≡ out)
one_place_short out r m h = grind arith
