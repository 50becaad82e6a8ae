-- A cutting day's verdict and plan in numbers, as the header has them (RULES, Cutting day).
--   flat_verdict v        number, rule, and the job or rig concerned, with the other job of a clash
--   flat_plan p           number, whether all jobs have a rig, and else the first job that finds none
--   IsCheckable l a       the lists have one length, and there is one rig a job
--   IsPlannable l room    the lists have one length, and there is room for one rig a job
--   Checks l a v          the verdict v on such lists is day's on their jobs and rigs; on others it is out of range
--   ChecksInto l a f      the same in numbers
--   without_plan p        an answer without its plan
--   written_of p          the rigs that it writes: those of a plan, else none
--   Plans l room p        the answer p on such lists is day's on their jobs and rigs; on others it is out of range
--   PlansInto l out f m   the same in numbers, and the rigs over the start of the list out
-- Assumes nothing.
use Rattle.std.specs.Prelude.{ℕ, ◌≡◌, ◌≤◌, ◌⊎◌, true, false, List, [], length, map, Result, Ok, Err}
use Rattle.text.specs.Words.{over}
use Rattle.day.specs.Verdicts.{VerdictHolds}
use Rattle.day.specs.Plans.{PlanHolds}
use Rattle.day.specs.declared.Placement.{Placement}
use Rattle.day.specs.declared.check.CheckError.{CheckError}
use Rattle.day.specs.declared.check.CheckError.TheVariants.{OutOfRange, NoRig, TooEarly, Clash, Spent}
use Rattle.day.specs.declared.plan.PlanError.{PlanError}
use Rattle.day.specs.declared.plan.PlanError.TheVariants.{OutOfRange as NoDay, NoRig as Unplaced}
use Rattle.board.specs.Lists.{Lists, HaveOneLength, jobs_in, rigs_in, plan_in}
use Rattle.board.specs.declared.days.FlatVerdict.{FlatVerdict}
use Rattle.board.specs.declared.days.FlatPlan.{FlatPlan}

abbrev pub flat_verdict : Result (Unit {0}) CheckError → FlatVerdict
flat_verdict (Ok _) = record { number = 0; rule = 0; first = 0; second = 0 }
flat_verdict (Err OutOfRange) = record { number = 3; rule = 0; first = 0; second = 0 }
flat_verdict (Err (NoRig j)) = record { number = 0; rule = 1; first = j; second = 0 }
flat_verdict (Err (TooEarly j)) = record { number = 0; rule = 2; first = j; second = 0 }
flat_verdict (Err (Clash i j)) = record { number = 0; rule = 3; first = i; second = j }
flat_verdict (Err (Spent r)) = record { number = 0; rule = 4; first = r; second = 0 }

abbrev pub flat_plan : Result (Unit {0}) PlanError → FlatPlan
flat_plan (Ok _) = record { number = 0; planned = true; job = 0 }
flat_plan (Err NoDay) = record { number = 3; planned = false; job = 0 }
flat_plan (Err (Unplaced j)) = record { number = 0; planned = false; job = j }

abbrev pub IsCheckable : Lists → List ℕ → Type 0
IsCheckable l a = HaveOneLength l × (length a ≡ length l.starts)

abbrev pub IsPlannable : Lists → ℕ → Type 0
IsPlannable l room = HaveOneLength l × (length l.starts ≤ room)

module _ (l : Lists) (a : List ℕ) where
  abbrev pub Checks : Result (Unit {0}) CheckError → Type 0
  Checks v = IsCheckable l a × VerdictHolds (rigs_in l) (plan_in l a) v ⊎ ¬ IsCheckable l a × (v ≡ Err OutOfRange)

  abbrev pub ChecksInto : FlatVerdict → Type 0
  ChecksInto f = (v : Result (Unit {0}) CheckError) × Checks v × (f ≡ flat_verdict v)

abbrev pub without_plan : Result (List Placement) PlanError → Result (Unit {0}) PlanError
without_plan (Ok ps) = Ok tt
without_plan (Err e) = Err e

abbrev pub written_of : Result (List Placement) PlanError → List ℕ
written_of (Ok ps) = map (λ p. p.rig) ps
written_of (Err e) = []

module _ (l : Lists) where
  abbrev pub Plans : ℕ → Result (List Placement) PlanError → Type 0
  Plans room p = IsPlannable l room × PlanHolds (jobs_in l) (rigs_in l) p ⊎ ¬ IsPlannable l room × (p ≡ Err NoDay)

  abbrev pub PlansInto : (out : List ℕ) → FlatPlan → List ℕ → Type 0
  PlansInto out f m =
      (p : Result (List Placement) PlanError) × Plans (length out) p × (f ≡ flat_plan (without_plan p))
      × (m ≡ over (written_of p) out)
