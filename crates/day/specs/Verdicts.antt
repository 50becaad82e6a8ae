-- What each answer of the checker says of a plan (RULES, Cutting day), in its words and apart from how it is found.
-- Exactly one answer is true (src/theorems, the_verdict_told_holds).
--   InRange rigs ps              at most 64 jobs and 8 rigs, each in its range
--   IsLowestBreaking rule ps k   k is the lowest job of the placements ps that breaks the rule
--   ShareAt rigs ps i j          the jobs i and j share a second on a rig
--   AreApartAt rigs ps i j       the jobs i and j share no second on a rig
--   IsAloneAt rigs ps i          the job i shares no second with a later one
--   IsLowestPartner rigs ps i j  j is the lowest later job that shares a second with the job i
--   IsLowestClash rigs ps i j    of the pairs that share a second, this is the one with the lowest first job, then the
--                                lowest second job
--   IsLowestSpent rigs ps k      k is the lowest rig that burns more than it has left
--   VerdictHolds rigs ps v       what the verdict v says; if it names a rule that is broken, all jobs keep the rules
--                                before it
-- Assumes nothing.
use Rattle.std.specs.Prelude.{ℕ, ◌<◌, ◌≤◌, List, length, Result, Ok, Err, All, AllPairs, slice_index_or}
use Rattle.std.specs.List.{AllWithin, HoldsAt}
use Rattle.day.specs.Days.{IsJob, IsRig}
use Rattle.day.specs.Rules.{HasRig, InTime, Share, AreApart, Lasts, Keeps}
use Rattle.day.specs.declared.Rig.{Rig}
use Rattle.day.specs.declared.Placement.{Placement}
use Rattle.day.specs.declared.TheConstants.{JOBS_MOST, RIGS_MOST}
use Rattle.day.specs.declared.check.CheckError.{CheckError}
use Rattle.day.specs.declared.check.CheckError.TheVariants.{OutOfRange, NoRig, TooEarly, Clash, Spent}

pub record InRange (rigs : List Rig) (ps : List Placement) : Type 0 where
  pub few_jobs : length ps ≤ JOBS_MOST
  pub few_rigs : length rigs ≤ RIGS_MOST
  pub all_jobs : All (λ p. IsJob p.job) ps
  pub all_rigs : All IsRig rigs

pub record IsLowestBreaking (rule : Placement → Type 0) (ps : List Placement) (k : ℕ) : Type 0 where
  pub inside : k < length ps
  pub breaks : HoldsAt (λ p. ¬ rule p) ps k
  pub lower : AllWithin rule ps 0 k

module _ (rigs : List Rig) (ps : List Placement) where
  abbrev pub ShareAt : ℕ → ℕ → Type 0
  ShareAt i j = (d : Placement) → Share rigs (slice_index_or ps i d) (slice_index_or ps j d)

  abbrev pub AreApartAt : ℕ → ℕ → Type 0
  AreApartAt i j = (d : Placement) → AreApart rigs (slice_index_or ps i d) (slice_index_or ps j d)

  abbrev pub IsAloneAt : ℕ → Type 0
  IsAloneAt i = (j : ℕ) → i < j → j < length ps → AreApartAt i j

  pub record IsLowestPartner (i j : ℕ) : Type 0 where
    pub later : i < j
    pub inside : j < length ps
    pub shares : ShareAt i j
    pub lower_second : (l : ℕ) → i < l → l < j → AreApartAt i l

  pub record IsLowestClash (i j : ℕ) : Type 0 where
    pub partner : IsLowestPartner i j
    pub lower_first : (k : ℕ) → k < i → IsAloneAt k

  pub record IsLowestSpent (k : ℕ) : Type 0 where
    pub inside : k < length rigs
    pub spends : ¬ Lasts rigs ps k
    pub lower : (q : ℕ) → q < k → Lasts rigs ps q

  abbrev pub AllRigged : Type 0
  AllRigged = All (HasRig rigs) ps

  abbrev pub AllTimely : Type 0
  AllTimely = All (InTime rigs) ps

  abbrev pub AllApart : Type 0
  AllApart = AllPairs (AreApart rigs) ps

  abbrev pub VerdictHolds : Result (Unit {0}) CheckError → Type 0
  VerdictHolds (Ok _) = InRange rigs ps × Keeps rigs ps
  VerdictHolds (Err OutOfRange) = ¬ InRange rigs ps
  VerdictHolds (Err (NoRig j)) = InRange rigs ps × IsLowestBreaking (HasRig rigs) ps j
  VerdictHolds (Err (TooEarly j)) = InRange rigs ps × AllRigged × IsLowestBreaking (InTime rigs) ps j
  VerdictHolds (Err (Clash i j)) = InRange rigs ps × AllRigged × AllTimely × IsLowestClash i j
  VerdictHolds (Err (Spent k)) = InRange rigs ps × AllRigged × AllTimely × AllApart × IsLowestSpent k
