use Rattle.text.proofs.Scanning.{Gathered}
use Rattle.words.specs.Bytes.{is_alnum}
use Rattle.words.proofs.texts.are_alnum.Given as goal

abbrev pub invariant-loop-b : goal.invariant-loop-b
invariant-loop-b l = Gathered is_alnum l.s l.b-index l.ok
