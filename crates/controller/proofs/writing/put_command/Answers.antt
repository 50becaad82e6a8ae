-- The line is what leads it and the command's own, and short enough for the memory.
use Rattle.std.proofs.Common.{ℕ, ◌≤◌, Bool, List, length, arith, length-append}
use Rattle.text.proofs.Stores.{sets_over}
use Rattle.digest.proofs.Laws.{length-leading_digest}
use Rattle.pjlink.proofs.CommandLines.{line_at_most_11}
use Rattle.controller.specs.Writing.{led_by}
use Rattle.controller.proofs.writing.put_command.Goals as goal

lead_short : (secured : Bool) (random : ℕ) (password : List ℕ) → length (led_by secured random password) ≤ 32
lead_short secured random password = grind (arith, length-leading_digest)

pub put-requires : goal.put-requires
put-requires c = grind (arith, lead_short)

pub returns-clause-written : goal.returns-clause-written
returns-clause-written c = grind (arith, lead_short, line_at_most_11, length-append, sets_over)
