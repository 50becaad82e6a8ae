-- Each `return` is one way in which bytes are collected all at once.
use Rattle.std.proofs.Common.{◌≡◌, ◌+◌, length, sym, ◌∙◌, arith}
use Rattle.text.proofs.FlagsTold.{lowered_zero}
use Rattle.record.specs.declared.types.CollectedLine.{CollectedLine}
use Rattle.stream.specs.Collecting.{overlong_line}
use Rattle.stream.proofs.AllAtOnce.{marked_stays, all_fit, all_past}
use Rattle.stream.proofs.collect.Goals as goal

pub returns-then-is_raised : goal.returns-then-is_raised
returns-then-is_raised c =
    sym (marked_stays c.args.most c.args.l.now c.args.more.now (sym c.is_raised.ensures ∙ c.if-is_raised.true))

pub returns-then-most-held : goal.returns-then-most-held
unfolding overlong_line
returns-then-most-held c =
    let unmarked = sym c.is_raised.ensures ∙ c.if-is_raised.false in
    sym (all_past c.args.most c.args.l.now c.args.more.now unmarked (omega arith) (omega arith))

pub returns-then-most-held-2 : goal.returns-then-most-held-2
unfolding overlong_line
returns-then-most-held-2 c =
    let unmarked = sym c.is_raised.ensures ∙ c.if-is_raised.false in
    sym (all_past c.args.most c.args.l.now c.args.more.now unmarked (omega arith) (omega arith))

pub returns : goal.returns
returns c =
    let unmarked = sym c.is_raised.ensures ∙ c.if-is_raised.false in
    let stored : ◌≡◌ {A = CollectedLine} _ _ = λ i. record {
      overlong = lowered_zero c.args.l.now.overlong unmarked i;
      held = c.args.l.now.held + length c.args.more.now;
      bytes = c.put.ensures i;
    } in
    stored ∙ sym (all_fit c.args.most c.args.l.now c.args.more.now unmarked (omega arith))
