use Rattle.text.proofs.Scanning.{Gathered}
use Rattle.text.specs.Flags.{is_flag}
use Rattle.text.proofs.flag.are_flags.Given as goal

abbrev pub invariant-loop-flag : goal.invariant-loop-flag
invariant-loop-flag l = Gathered is_flag l.flags l.flag-index l.ok
