-- How it is found, so that a sum without the LF is refused by values.
use Rattle.std.proofs.Common.{arith}
use Rattle.history.proofs.Fits.{sum_past_lf}
use Rattle.history.proofs.recorder.Recorder.read_past.Goals as goal

pub returns : goal.returns
returns c = grind (arith, sum_past_lf)
