-- The places passed have what the lists have there, and the others what they had.
use Rattle.board.specs.Lists.{reading_at}
use Rattle.board.proofs.Zipping.{IsPut}
use Rattle.board.proofs.lists.put_readings.Given as goal

abbrev pub invariant-loop-k : goal.invariant-loop-k
invariant-loop-k l = IsPut (reading_at l.earlier l.later) l.initial.readings l.readings l.k
