use Rattle.text.specs.Scans.{itself}
use Rattle.text.proofs.Scanning.{Alike}
use Rattle.text.proofs.is_same.Given as goal

abbrev pub invariant-loop-i : goal.invariant-loop-i
invariant-loop-i l = Alike itself l.bytes l.other l.i
