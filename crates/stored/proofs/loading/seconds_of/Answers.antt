use Rattle.std.proofs.Common.{◌∙◌, ◌/◌, length, arith}
use Rattle.record.specs.Limits.{lamps_most}
use Rattle.text.proofs.RoomsFilled.{all_copied}
use Rattle.record.proofs.Kept.{kept_in_room}
use Rattle.stored.specs.Sections.{seconds_in}
use Rattle.stored.proofs.Fields.{length-seconds_in}
use Rattle.stored.proofs.loading.seconds_of.Goals as goal

pub returns : goal.returns
returns c =
    let s = c.args.bytes.now in
    let many = length-seconds_in (length s / 4) s in
    all_copied 0 lamps_most _ (omega arith) c.loop-i.invariant (omega arith)
    ∙ kept_in_room lamps_most (seconds_in (length s / 4) s)
