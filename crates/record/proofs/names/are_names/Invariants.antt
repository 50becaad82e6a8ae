use Rattle.text.proofs.Scanning.{Gathered}
use Rattle.words.specs.Texts.{is_input_name}
use Rattle.record.specs.Wanted.{cut_by}
use Rattle.record.proofs.CutNames.{CutTo}
use Rattle.record.proofs.names.are_names.Given as goal

abbrev pub invariant-loop-n : goal.invariant-loop-n
invariant-loop-n l =
    CutTo l.lengths l.bytes l.at l.n-index × Gathered is_input_name (cut_by l.lengths l.bytes) l.n-index l.ok
