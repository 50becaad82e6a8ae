use Rattle.std.proofs.Common.{arith, false}
use Rattle.text.specs.Flags.{flag_of}
use Rattle.text.proofs.FlagsTold.{one_mapped}
use Rattle.text.proofs.flag.flags.Goals as goal

pub loop-k-preserved : goal.loop-k-preserved
loop-k-preserved g c =
    one_mapped flag_of false c.args.raised.now c.loop-k.invariant (omega (arith, c.loop-k-test.true)) c.of.ensures
