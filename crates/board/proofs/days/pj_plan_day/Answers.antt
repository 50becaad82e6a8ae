use Rattle.std.proofs.Common.{length, arith, ap}
use Rattle.board.proofs.OneOfLists.{plan_fits}
use Rattle.board.proofs.days.pj_plan_day.Goals as goal

pub put_rigs_of-requires : goal.put_rigs_of-requires
put_rigs_of-requires c = omega (arith, plan_fits _ _ _ c.in-Ok.ensures, ap length c.placements.ensures)
