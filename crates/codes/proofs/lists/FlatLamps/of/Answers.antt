use Rattle.std.proofs.Common.{arith}
use Rattle.std.proofs.lemmas.List.{length-map}
use Rattle.std.proofs.Math.ListN.{get_or-map}
use Rattle.text.proofs.RoomsFilled.{one_copied}
use Rattle.codes.specs.Readings.{hours_of, is_lit_lamp}
use Rattle.codes.proofs.lists.FlatLamps.of.Goals as goal

pub loop-k-preserved : goal.loop-k-preserved
loop-k-preserved c =
    let lamps = c.args.lamps.now in
    let k = c.loop-k.k in
    grind (arith, one_copied, length-map, get_or-map hours_of lamps k, get_or-map is_lit_lamp lamps k)
