use Rattle.std.proofs.Common.{◌≡◌, ◌++◌, take}
use Rattle.words.proofs.codec.put_all.Given as goal

abbrev pub invariant-loop-b : goal.invariant-loop-b
invariant-loop-b l = l.out.items ≡ l.fn.out.items ++ take l.b-index l.fn.bytes
