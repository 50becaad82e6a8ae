-- What each answer of the planner says of jobs and rigs (RULES, Cutting day), in its words and apart from how it is
-- found: the greedy assignment. Exactly one answer is true (src/theorems, the_plan_answered_holds).
--   jobs_of ps               the jobs of the placements ps, in their order
--   on_rig j k               the placement of the job j on the rig k
--   IsLowestRig rigs ps j k  k is the lowest rig on which the job j keeps every rule with the placements ps
--   FindsNone rigs ps j      on no rig does the job j keep every rule with the placements ps
--   IsGreedy rigs ps         each job of the placements ps is on its lowest rig
--   FindsNoneAt jobs rigs j  each job before the job j is on its lowest rig, and there is none for j
--   PlanHolds jobs rigs p    what the answer p says
-- Assumes nothing.
use Rattle.std.specs.Prelude.{ℕ, ◌<◌, ◌≡◌, List, [], ◌∷◌, ◌++◌, length, take, map, Result, Ok, Err, Some}
use Rattle.std.specs.Prelude.{slice_get, slice_index_or}
use Rattle.day.specs.Days.{IsDay}
use Rattle.day.specs.Rules.{Keeps}
use Rattle.day.specs.declared.Job.{Job}
use Rattle.day.specs.declared.Rig.{Rig}
use Rattle.day.specs.declared.Placement.{Placement}
use Rattle.day.specs.declared.plan.PlanError.{PlanError}
use Rattle.day.specs.declared.plan.PlanError.TheVariants.{OutOfRange, NoRig}

abbrev pub jobs_of : List Placement → List Job
jobs_of ps = map (λ p. p.job) ps

abbrev pub on_rig : Job → ℕ → Placement
on_rig job k = record { job = job; rig = k }

pub record IsLowestRig (rigs : List Rig) (ps : List Placement) (job : Job) (k : ℕ) : Type 0 where
  pub keeps : Keeps rigs (ps ++ on_rig job k ∷ [])
  pub lowest : (q : ℕ) → q < k → ¬ Keeps rigs (ps ++ on_rig job q ∷ [])

abbrev pub FindsNone : List Rig → List Placement → Job → Type 0
FindsNone rigs ps job = (k : ℕ) → ¬ Keeps rigs (ps ++ on_rig job k ∷ [])

abbrev pub IsGreedy : List Rig → List Placement → Type 0
IsGreedy rigs ps =
    (j : ℕ) (d : Placement) → j < length ps
    → IsLowestRig rigs (take j ps) (slice_index_or ps j d).job (slice_index_or ps j d).rig

pub record FindsNoneAt (jobs : List Job) (rigs : List Rig) (j : ℕ) : Type 0 where
  pub placed : List Placement
  pub before : jobs_of placed ≡ take j jobs
  pub greedy : IsGreedy rigs placed
  pub job : Job
  pub next : slice_get jobs j ≡ Some job
  pub none : FindsNone rigs placed job

module _ (jobs : List Job) (rigs : List Rig) where
  abbrev pub PlanHolds : Result (List Placement) PlanError → Type 0
  PlanHolds (Ok ps) = IsDay jobs rigs × IsGreedy rigs ps × (jobs_of ps ≡ jobs)
  PlanHolds (Err OutOfRange) = ¬ IsDay jobs rigs
  PlanHolds (Err (NoRig j)) = IsDay jobs rigs × FindsNoneAt jobs rigs j
