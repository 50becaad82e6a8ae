-- what a failure leaves waits on; else nothing does
use Rattle.std.proofs.KnownBytes.{append_known-moved}
use Rattle.textio.proofs.Known.{range_later}
use Rattle.textio.proofs.writer.BufferedWriter.drain.Goals as goal

pub returns-in_err-told-clause-keeps : goal.returns-in_err-told-clause-keeps
returns-in_err-told-clause-keeps g c =
    let w = c.args.self.now in
    append_known-moved _ _ _ _ _ c.hand_on-count.ensures.bytes
    (range_later w.bytes w.start w.end c.hand_on-count.result.0 c.hand_on-count.ensures.bound)
