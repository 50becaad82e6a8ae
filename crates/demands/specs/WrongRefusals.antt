-- Wrong boards against demand 1: what a refusal leaves. That each violates it is proved in proofs/WrongBoardsFall.antt.
-- Assumes nothing.
use Rattle.std.specs.Prelude.{if◌then◌else◌, ◌==◌, codes}
use Rattle.text.specs.Words.{over}
use Rattle.record.specs.Record.{closed}
use Rattle.record.specs.Places.{with_place}
use Rattle.record.specs.declared.types.Device.{Device}
use Rattle.ours.specs.Board.{Board, ours}
use Rattle.demands.specs.OursBut.{but_receive}

-- writes the start of a reply before it refuses
abbrev pub writes_first : Board Device
writes_first = but_receive (λ d p bs m.
    let r = ours.receive d p bs m in
    record {
      number = r.number;
      taken = r.taken;
      length = r.length;
      memory = if r.number == 0 then r.memory else over (codes "%1") m;
      device = r.device;
    })

-- closes the connection where it refuses
abbrev pub changes_refused : Board Device
changes_refused = but_receive (λ d p bs m.
    let r = ours.receive d p bs m in
    record {
      number = r.number;
      taken = r.taken;
      length = r.length;
      memory = r.memory;
      device = if r.number == 0 then r.device else with_place d d.own p closed;
    })
