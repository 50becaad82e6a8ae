use Rattle.text.proofs.Scanning.{Gathered}
use Rattle.words.specs.Texts.{is_text_byte}
use Rattle.words.proofs.texts.are_text_bytes.Given as goal

abbrev pub invariant-loop-b : goal.invariant-loop-b
invariant-loop-b l = Gathered is_text_byte l.s l.b-index l.ok
