-- The place after bytes that are not this one, at this one or at the end, is the first.
use Rattle.std.proofs.Common.{arith, ◌==◌}
use Rattle.std.proofs.lemmas.Grind.{common_steps}
use Rattle.std.proofs.lemmas.List.Sums.{position_or_len_is}
use Rattle.text.proofs.find.Goals as goal

pub returns-clause-place : goal.returns-clause-place
returns-clause-place c =
    grind (arith, common_steps, position_or_len_is (λ x. x == c.args.byte) c.args.bytes.now c.unwrap_or.result 0)
