-- A lamp that there is has a mark.
use Rattle.std.proofs.Common.{arith}
use Rattle.record.proofs.LegalTold.{settings_of_legal}
use Rattle.record.proofs.legality.Legal.set_mark.Goals as goal

pub bounds-marks-lamp : goal.bounds-marks-lamp
bounds-marks-lamp c = grind (arith, settings_of_legal c.args.self.now.device.now c.args.self.now.legal)
