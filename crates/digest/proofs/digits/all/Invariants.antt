-- After i turns the digits of the first i bytes stand first.
use Rattle.std.proofs.Common.{◌≡◌, take, replicate}
use Rattle.std.proofs.lemmas.List.Edits.{sets}
use Rattle.digest.specs.Hex.{hex_of}
use Rattle.digest.proofs.digits.all.Given as goal

abbrev pub invariant-loop-i : goal.invariant-loop-i
invariant-loop-i l = l.out ≡ sets (replicate 32 0) 0 (hex_of (take l.i l.b))
