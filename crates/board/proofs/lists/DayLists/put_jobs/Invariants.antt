-- The places passed have what the lists have there, and the others what they had.
use Rattle.board.specs.Lists.{job_at}
use Rattle.board.specs.Lent.{day_lists}
use Rattle.board.proofs.Zipping.{IsPut}
use Rattle.board.proofs.lists.DayLists.put_jobs.Given as goal

abbrev pub invariant-loop-j : goal.invariant-loop-j
invariant-loop-j l = IsPut (job_at (day_lists l.self)) l.initial.jobs l.jobs l.j
