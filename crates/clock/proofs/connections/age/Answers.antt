use Rattle.std.proofs.Common.{ap, ◌∙◌, arith, length, set, slice_index_or, length-append, length-drop, length-take}
use Rattle.std.proofs.lemmas.List.{get_or_default, length-map}
use Rattle.std.proofs.lemmas.List.Edits.{map_over_more}
use Rattle.record.specs.Places.{no_connection}
use Rattle.clock.specs.Second.{times, connection_second}
use Rattle.clock.proofs.connections.age.Goals as goal

pub loop-place-preserved : goal.loop-place-preserved
loop-place-preserved c =
    let l = c.loop-place.connections in
    let k = c.loop-place.place in
    let long = simp (length-append, length-map, length-take, length-drop) at (ap length c.loop-place.invariant) in
    let there = get_or_default l k no_connection (slice_index_or l k no_connection) (omega (arith, long)) in
    ap (set l k) c.age.ensures
    ∙ map_over_more (times connection_second c.args.seconds) c.args.connections.now l k _ (omega arith)
    c.loop-place.invariant there
