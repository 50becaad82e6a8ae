-- The places passed have what the lists have there, and the others what they had.
use Rattle.board.specs.Lists.{placement_at}
use Rattle.board.specs.Lent.{day_lists}
use Rattle.board.proofs.Zipping.{IsPut}
use Rattle.board.proofs.lists.DayLists.put_plan.Given as goal

abbrev pub invariant-loop-j : goal.invariant-loop-j
invariant-loop-j l = IsPut (placement_at (day_lists l.self) l.rigs) l.initial.plan l.plan l.j
