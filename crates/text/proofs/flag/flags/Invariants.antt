use Rattle.std.proofs.Common.{false}
use Rattle.text.specs.Flags.{flag_of}
use Rattle.text.proofs.FlagsTold.{IsMappedTo}
use Rattle.text.proofs.flag.flags.Given as goal

abbrev pub invariant-loop-k : goal.invariant-loop-k
invariant-loop-k g l = IsMappedTo flag_of false l.raised l.flags l.k
