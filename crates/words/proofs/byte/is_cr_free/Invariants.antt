use Rattle.text.proofs.Scanning.{Gathered}
use Rattle.words.specs.Bytes.{is_not_cr}
use Rattle.words.proofs.byte.is_cr_free.Given as goal

abbrev pub invariant-loop-b : goal.invariant-loop-b
invariant-loop-b l = Gathered is_not_cr l.bytes l.b-index l.ok
