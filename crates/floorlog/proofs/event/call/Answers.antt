-- A record that is not legal is refused with 1, where the line has a form; and it stays as it was.
use Rattle.std.proofs.Common.{arith, refl, sym, ◌∙◌}
use Rattle.floorlog.specs.Events.{event_said}
use Rattle.floorlog.proofs.EventsLeave.{did_legality, illegal_text, illegal_answer, illegal_kept}
use Rattle.floorlog.proofs.EventsLeave.{illegal_silent}
use Rattle.floorlog.proofs.Driven.{driven}
use Rattle.floorlog.proofs.event.call.Goals as goal

pub invariant_of-tested : goal.invariant_of-tested
invariant_of-tested c = grind (arith, did_legality)

pub returns-then-tested-clause-places : goal.returns-then-tested-clause-places
returns-then-tested-clause-places c = grind (arith, driven)

pub returns-in-NoSuch-clause-text : goal.returns-in-NoSuch-clause-text
returns-in-NoSuch-clause-text c = rw c.in-NoSuch.is refl

pub returns-in_default-clause-text : goal.returns-in_default-clause-text
returns-in_default-clause-text c =
    illegal_text c.args.tested.now.device c.args.event.now c.args.reply.now (sym c.args.tested.now.tested
    ∙ c.if-tested.false)
    c.in_default.not-NoSuch

pub returns-in_default-clause-answer : goal.returns-in_default-clause-answer
returns-in_default-clause-answer c =
    illegal_answer c.args.tested.now.device c.args.event.now (sym c.args.tested.now.tested
    ∙ c.if-tested.false) c.in_default.not-NoSuch

pub returns-in-NoSuch-clause-device : goal.returns-in-NoSuch-clause-device
returns-in-NoSuch-clause-device c = grind (arith, illegal_kept)

pub returns-in_default-clause-device : goal.returns-in_default-clause-device
returns-in_default-clause-device c = grind (arith, illegal_kept)

pub returns-in-NoSuch-clause-places : goal.returns-in-NoSuch-clause-places
returns-in-NoSuch-clause-places c =
    driven c.args.tested.now.device (event_said c.args.event.now) (returns-in-NoSuch-clause-device c)

pub returns-in_default-clause-places : goal.returns-in_default-clause-places
returns-in_default-clause-places c =
    driven c.args.tested.now.device (event_said c.args.event.now) (returns-in_default-clause-device c)

pub returns-in-NoSuch-clause-reply : goal.returns-in-NoSuch-clause-reply
returns-in-NoSuch-clause-reply c = grind (arith, illegal_silent)

pub returns-in_default-clause-reply : goal.returns-in_default-clause-reply
returns-in_default-clause-reply c = grind (arith, illegal_silent)
