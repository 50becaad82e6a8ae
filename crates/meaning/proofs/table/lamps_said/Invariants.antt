-- The hours of the lamps passed.
use Rattle.std.proofs.Common.{◌≡◌, ◌≤◌, length, map, take}
use Rattle.text.specs.Flags.{is_raised}
use Rattle.meaning.specs.Meaning.{lamps_said}
use Rattle.meaning.proofs.table.lamps_said.Given as goal

abbrev pub invariant-loop-k : goal.invariant-loop-k
invariant-loop-k l = record {
  many : length l.lamps.items ≡ l.k;
  counted : l.k ≤ l.count;
  told : l.lamps.items ≡ lamps_said l.lit (map is_raised l.marks) (take l.k l.seconds);
}
