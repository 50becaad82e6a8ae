-- The ranges of a cutting day (RULES, Cutting day).
--   IsJob j          the job j has a length of at least 1 and ends at 86,400 at most
--   IsRig r          W and C of the rig r are 1 to 600
--   IsDay jobs rigs  at most 64 jobs and 8 rigs, each in its range
-- Assumes nothing.
use Rattle.std.specs.Prelude.{◌+◌, ◌≤◌, List, length, All}
use Rattle.day.specs.declared.Job.{Job}
use Rattle.day.specs.declared.Rig.{Rig}
use Rattle.day.specs.declared.TheConstants.{JOBS_MOST, RIGS_MOST, DAY_END, WARM_OR_COOL_MOST}

pub record IsJob (j : Job) : Type 0 where
  pub lasts : 1 ≤ j.length
  pub ends : j.start + j.length ≤ DAY_END

pub record IsRig (r : Rig) : Type 0 where
  pub warms : 1 ≤ r.warm_up
  pub warms_soon : r.warm_up ≤ WARM_OR_COOL_MOST
  pub cools : 1 ≤ r.cooling
  pub cools_soon : r.cooling ≤ WARM_OR_COOL_MOST

pub record IsDay (jobs : List Job) (rigs : List Rig) : Type 0 where
  pub few_jobs : length jobs ≤ JOBS_MOST
  pub few_rigs : length rigs ≤ RIGS_MOST
  pub all_jobs : All IsJob jobs
  pub all_rigs : All IsRig rigs
