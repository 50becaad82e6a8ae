-- The four rules (RULES, Cutting day), over jobs that are placed on rigs.
--   MayUse j k            bit k is set in the rigs that the job j may use
--   HasRig rigs p         the rig of the placement exists, and the job may use it
--   IsOn rigs p r         r is the rig of the placement
--   InTime rigs p         the job does not start before its rig's W
--   Occupies r j t        on the rig r the job j occupies the second t: W seconds before its start, its length, C after
--                         it
--   Meet r i j            on the rig r the stretches of the jobs i and j share a second
--   Share rigs p q        the two placements are on one rig, and meet there
--   AreApart rigs p q     they are not on one rig, or do not meet there
--   burns_on k r p        what the placement p burns on the rig r of number k: W plus its length if it is there
--   burnt_together k r ps  what the placements ps burn there together
--   Lasts rigs ps k       the rig k burns no more than it has left
--   Keeps rigs ps         the placements ps keep all four rules
-- Assumes nothing.
use Rattle.std.specs.Prelude.{ℕ, ◌+◌, ◌/◌, ◌%◌, ◌^◌, ◌<◌, ◌≤◌, ◌≡◌, ◌==◌, List, length, Some, slice_get, All, AllPairs}
use Rattle.std.specs.Prelude.{sum_by, if◌then◌else◌}
use Rattle.day.specs.declared.Job.{Job}
use Rattle.day.specs.declared.Rig.{Rig}
use Rattle.day.specs.declared.Placement.{Placement}

abbrev pub MayUse : Job → ℕ → Type 0
MayUse j k = j.allowed / 2 ^ k % 2 ≡ 1

abbrev pub HasRig : List Rig → Placement → Type 0
HasRig rigs p = (p.rig < length rigs) × MayUse p.job p.rig

abbrev pub IsOn : List Rig → Placement → Rig → Type 0
IsOn rigs p r = slice_get rigs p.rig ≡ Some r

abbrev pub InTime : List Rig → Placement → Type 0
InTime rigs p = (r : Rig) → IsOn rigs p r → r.warm_up ≤ p.job.start

pub record Occupies (r : Rig) (j : Job) (t : ℕ) : Type 0 where
  pub begun : j.start ≤ t + r.warm_up
  pub lasting : t < j.start + j.length + r.cooling

abbrev pub Meet : Rig → Job → Job → Type 0
Meet r i j = (t : ℕ) × Occupies r i t × Occupies r j t

abbrev pub Share : List Rig → Placement → Placement → Type 0
Share rigs p q = (p.rig ≡ q.rig) × ((r : Rig) × IsOn rigs p r × Meet r p.job q.job)

abbrev pub AreApart : List Rig → Placement → Placement → Type 0
AreApart rigs p q = ¬ Share rigs p q

abbrev pub burns_on : ℕ → Rig → Placement → ℕ
burns_on k r p = if p.rig == k then r.warm_up + p.job.length else 0

abbrev pub burnt_together : ℕ → Rig → List Placement → ℕ
burnt_together k r ps = sum_by (burns_on k r) ps

abbrev pub Lasts : List Rig → List Placement → ℕ → Type 0
Lasts rigs ps k = (r : Rig) → slice_get rigs k ≡ Some r → burnt_together k r ps ≤ r.life

pub record Keeps (rigs : List Rig) (ps : List Placement) : Type 0 where
  pub rigged : All (HasRig rigs) ps
  pub timely : All (InTime rigs) ps
  pub apart : AllPairs (AreApart rigs) ps
  pub lasting : (k : ℕ) → Lasts rigs ps k
