-- Each place before the next has its word and its constant.
use Rattle.std.proofs.Common.{◌≡◌, ◌+◌, ◌*◌, length}
use Rattle.digest.proofs.Sums.{SumsBelow}
use Rattle.digest.proofs.block.rounds.sums.Given as goal

abbrev pub invariant-loop-round : goal.invariant-loop-round
invariant-loop-round l = record {
  long : length l.sums ≡ 64;
  summed : SumsBelow (16 * l.round) l.m l.constants l.sums;
}

abbrev pub invariant-loop-k : goal.invariant-loop-k
invariant-loop-k l = record {
  long : length l.sums ≡ 64;
  summed : SumsBelow (16 * l.round + l.k) l.m l.constants l.sums;
}
