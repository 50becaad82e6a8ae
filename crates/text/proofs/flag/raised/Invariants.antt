use Rattle.text.specs.Flags.{is_raised}
use Rattle.text.proofs.FlagsTold.{IsMappedTo}
use Rattle.text.proofs.flag.raised.Given as goal

abbrev pub invariant-loop-k : goal.invariant-loop-k
invariant-loop-k g l = IsMappedTo is_raised 0 l.flags l.raised l.k
