-- The rigs of the placements passed stand at the start of the list.
use Rattle.std.proofs.Common.{◌≡◌, take, map}
use Rattle.std.proofs.Math.Seq.{sets}
use Rattle.board.proofs.days.put_rigs_of.Given as goal

abbrev pub invariant-loop-j : goal.invariant-loop-j
invariant-loop-j l = l.out ≡ sets l.initial.out 0 (take l.j (map (λ p. p.rig) l.plan))
