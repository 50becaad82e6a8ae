use Rattle.text.proofs.Scanning.{Gathered}
use Rattle.text.proofs.rooms.are_blank.Given as goal

abbrev pub invariant-loop-place : goal.invariant-loop-place
invariant-loop-place g l = Gathered g.T.Blank.blank l.places l.place-index l.blank
