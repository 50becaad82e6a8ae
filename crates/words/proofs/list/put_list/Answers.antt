use Rattle.std.proofs.Common.{arith, lit<}
use Rattle.words.proofs.ListSteps.{room_next}
use Rattle.words.proofs.list.put_list.Goals as goal

pub push-requires : goal.push-requires
push-requires g c =
    let test = c.loop-x-test.true in
    let r = room_next g.T.Wire.text _ _ _ c.x-item.result _ _ c.requires test c.x-item.is c.loop-x.invariant in
    (lit< tt, omega (arith, r))

pub put-requires-in-loop-x : goal.put-requires-in-loop-x
put-requires-in-loop-x g c =
    let test = c.loop-x-test.true in
    let r = room_next g.T.Wire.text _ _ _ c.x-item.result _ _ c.requires test c.x-item.is c.loop-x.invariant in
    omega (arith, r, c.push.ensures.len)
