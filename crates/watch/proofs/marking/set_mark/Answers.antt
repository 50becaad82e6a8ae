-- A record stays legal; one that is not is refused, and stays as it was.
use Rattle.std.proofs.Common.{ap, sym, ◌∙◌, Some}
use Rattle.text.specs.Outcomes.{CallResult, call_number}
use Rattle.record.specs.Refusals.{refusal_number}
use Rattle.record.specs.declared.refusal.Refusal.{Refusal}
use Rattle.record.specs.declared.types.Device.{Device}
use Rattle.record.specs.Legal.{is_legal}
use Rattle.record.proofs.Calls.{mark_not_legal}
use Rattle.watch.specs.Marking.{marked, done_by}
use Rattle.watch.proofs.LineLeaves.{done_legality}
use Rattle.watch.proofs.marking.set_mark.Goals as goal

abbrev MarkSet : Type 0
MarkSet = CallResult Refusal (Unit {0}) Device

pub invariant_of-t : goal.invariant_of-t
unfolding done_by
invariant_of-t c =
    record {
      tested = c.args.t.now.tested
          ∙ sym (ap is_legal c.set_mark-told.ensures.device
          ∙ done_legality c.args.t.now.device (marked c.args.lamp c.args.mark));
    }

pub returns-then-t-clause-device : goal.returns-then-t-clause-device
unfolding done_by
returns-then-t-clause-device c = c.set_mark-told.ensures.device

pub returns-clause-device : goal.returns-clause-device
unfolding done_by
returns-clause-device c =
    sym (ap (λ (r : MarkSet). r.leaves) (mark_not_legal _ _ _ (sym c.args.t.now.tested ∙ c.if-t.false)))

pub returns-clause-number : goal.returns-clause-number
returns-clause-number c =
    ap Some c.number.ensures
    ∙ ap (λ (r : MarkSet). Some (call_number refusal_number r))
    (sym (mark_not_legal _ _ _ (sym c.args.t.now.tested ∙ c.if-t.false)))
