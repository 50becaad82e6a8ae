-- The lists of a call as jobs, rigs, placements and readings: the element at a place has the number there of each list.
--   Lists, lists            the six lists of a day, of its jobs and of its rigs
--   HaveOneLength l         the lists of the jobs are of one length, and those of the rigs
--   CanBeADay l               there are no more jobs and rigs than a day has
--   job_at l k              the job at the place k; so rig_at, placement_at, reading_at
--   jobs_in l, rigs_in l    the jobs and the rigs that the lists hand over
--   plan_in l rigs           the jobs, each on its rig of the list
--   readings_in es ls       the lamps' seconds at both readings
-- Assumes nothing.
use Rattle.std.specs.Prelude.{ℕ, ◌≡◌, ◌≤◌, List, length, map, slice_index}
use Rattle.std.specs.List.{range_with_len}
use Rattle.day.specs.declared.TheConstants.{JOBS_MOST, RIGS_MOST}
use Rattle.day.specs.declared.Job.{Job}
use Rattle.day.specs.declared.Rig.{Rig}
use Rattle.day.specs.declared.Placement.{Placement}
use Rattle.service.specs.declared.LampSeconds.{LampSeconds}

pub record Lists : Type 0 where
  pub starts : List ℕ
  pub lengths : List ℕ
  pub allowed : List ℕ
  pub warm : List ℕ
  pub cool : List ℕ
  pub life : List ℕ

abbrev pub lists : List ℕ → List ℕ → List ℕ → List ℕ → List ℕ → List ℕ → Lists
lists starts lengths allowed warm cool life =
    record { starts = starts; lengths = lengths; allowed = allowed; warm = warm; cool = cool; life = life }

pub record HaveOneLength (l : Lists) : Type 0 where
  pub lengths_alike : length l.lengths ≡ length l.starts
  pub allowed_alike : length l.allowed ≡ length l.starts
  pub cool_alike : length l.cool ≡ length l.warm
  pub life_alike : length l.life ≡ length l.warm

pub record CanBeADay (l : Lists) : Type 0 where
  pub few_jobs : length l.starts ≤ JOBS_MOST
  pub few_rigs : length l.warm ≤ RIGS_MOST

abbrev pub job_at : Lists → ℕ → Job
job_at l k =
    record { start = slice_index l.starts k; length = slice_index l.lengths k; allowed = slice_index l.allowed k }

abbrev pub rig_at : Lists → ℕ → Rig
rig_at l k = record { warm_up = slice_index l.warm k; cooling = slice_index l.cool k; life = slice_index l.life k }

abbrev pub placement_at : Lists → List ℕ → ℕ → Placement
placement_at l rigs k = record { job = job_at l k; rig = slice_index rigs k }

abbrev pub reading_at : List ℕ → List ℕ → ℕ → LampSeconds
reading_at earlier later k = record { earlier = slice_index earlier k; later = slice_index later k }

abbrev pub jobs_in : Lists → List Job
jobs_in l = map (job_at l) (range_with_len 0 (length l.starts))

abbrev pub rigs_in : Lists → List Rig
rigs_in l = map (rig_at l) (range_with_len 0 (length l.warm))

abbrev pub plan_in : Lists → List ℕ → List Placement
plan_in l rigs = map (placement_at l rigs) (range_with_len 0 (length l.starts))

abbrev pub readings_in : List ℕ → List ℕ → List LampSeconds
readings_in earlier later = map (reading_at earlier later) (range_with_len 0 (length earlier))
