use Rattle.words.specs.Texts.{is_text_byte}
use Rattle.record.specs.Legal.{is_zero}
use Rattle.record.proofs.Sifted.{IsSifted}
use Rattle.record.proofs.scan.is_text_room.Given as goal

abbrev pub invariant-loop-k : goal.invariant-loop-k
invariant-loop-k l = IsSifted is_text_byte is_zero l.bytes l.count l.k l.ok
