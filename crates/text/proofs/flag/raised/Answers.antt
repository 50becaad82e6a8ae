use Rattle.std.proofs.Common.{arith}
use Rattle.text.specs.Flags.{is_raised}
use Rattle.text.proofs.FlagsTold.{one_mapped}
use Rattle.text.proofs.flag.raised.Goals as goal

pub loop-k-preserved : goal.loop-k-preserved
loop-k-preserved g c =
    one_mapped is_raised 0 c.args.flags.now c.loop-k.invariant (omega (arith, c.loop-k-test.true)) c.is_raised.ensures
