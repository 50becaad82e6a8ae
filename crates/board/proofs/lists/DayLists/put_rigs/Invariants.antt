-- The places passed have what the lists have there, and the others what they had.
use Rattle.board.specs.Lists.{rig_at}
use Rattle.board.specs.Lent.{day_lists}
use Rattle.board.proofs.Zipping.{IsPut}
use Rattle.board.proofs.lists.DayLists.put_rigs.Given as goal

abbrev pub invariant-loop-k : goal.invariant-loop-k
invariant-loop-k l = IsPut (rig_at (day_lists l.self)) l.initial.rigs l.rigs l.k
