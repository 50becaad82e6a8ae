use Rattle.std.proofs.Common.{arith}
use Rattle.history.proofs.ShownFits.{lamps_short, shown_lengths}
use Rattle.history.proofs.shown.put_shown.Goals as goal

pub returns-clause-bound : goal.returns-clause-bound
returns-clause-bound g c =
    let before = c.try_extend_from_slice-2.new.self.items in
    let short = lamps_short before c.first.result.now c.put_lamps.ensures in
    grind (arith, shown_lengths, short, c.first.ensures.within)
