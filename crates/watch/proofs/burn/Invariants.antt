-- Up to k each enabled lamp has burnt its seconds, and the others stand as they were.
use Rattle.record.specs.Views.{marks_seen}
use Rattle.watch.proofs.Lamps.{GainedTo}
use Rattle.watch.proofs.burn.Given as goal

abbrev pub invariant-loop-k : goal.invariant-loop-k
invariant-loop-k l = GainedTo l.n l.initial.burnt (marks_seen l.device.own) l.device.settings.lamp_count l.burnt l.k
