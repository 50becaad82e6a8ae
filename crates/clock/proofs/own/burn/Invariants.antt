-- Up to k each enabled lamp has burnt its seconds, and the others stand as they were.
use Rattle.std.proofs.Common.{map}
use Rattle.text.specs.Flags.{is_raised}
use Rattle.clock.specs.Second.{times, one_more}
use Rattle.clock.proofs.ChangedWhere.{ChangedTo}
use Rattle.clock.proofs.own.burn.Given as goal

abbrev pub invariant-loop-k : goal.invariant-loop-k
invariant-loop-k l = ChangedTo (times one_more l.n) l.initial.lamps (map is_raised l.enabled) l.count l.lamps l.k
