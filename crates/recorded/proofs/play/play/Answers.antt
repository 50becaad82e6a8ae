-- A record that is not legal is refused with 1, and one that is legal stays so.
use Rattle.std.proofs.Common.{arith, sym, ap, ◌∙◌, List, ℕ}
use Rattle.text.specs.Words.{over}
use Rattle.demands.proofs.KeepsRunning.{stays_legal}
use Rattle.history.specs.Calls.{call_seen}
use Rattle.recorded.specs.Playing.{played_call}
use Rattle.recorded.proofs.Illegal.{illegal_told, illegal_leaves, illegal_silent}
use Rattle.recorded.proofs.play.play.Goals as goal

pub invariant_of-tested : goal.invariant_of-tested
invariant_of-tested c = grind (arith, stays_legal)

pub returns-clause-told : goal.returns-clause-told
returns-clause-told c =
    illegal_told c.args.tested.now.device (sym c.args.tested.now.tested ∙ c.if-tested.false) (call_seen c.args.call.now)

pub returns-clause-device : goal.returns-clause-device
returns-clause-device c =
    sym (illegal_leaves c.args.tested.now.device (sym c.args.tested.now.tested ∙ c.if-tested.false)
    (played_call (call_seen c.args.call.now)))

pub returns-clause-reply : goal.returns-clause-reply
returns-clause-reply c =
    ap (λ (r : List ℕ). over r c.args.reply.now)
    (sym (illegal_silent c.args.tested.now.device (sym c.args.tested.now.tested ∙ c.if-tested.false)
    (played_call (call_seen c.args.call.now))))
