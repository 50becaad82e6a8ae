use Rattle.std.proofs.Common.{[], inr}
use Rattle.textio.specs.declared.lines.Failure.TheVariants.{Write}
use Rattle.program.specs.declared.telling.CutCause.TheVariants.{Log}
use Rattle.program.proofs.Doing.{not_changed, changed_so}
use Rattle.program.proofs.run.tell_out.Goals as goal

pub returns-in-Err-end_output : goal.returns-in-Err-end_output
returns-in-Err-end_output g c = inr (record {
  cause = Log (Write c.in-Err-end_output.error);
  changed = not_changed _;
  source = [];
  mid = _;
  front = c.tell.ensures.front;
  last = c.end_output.ensures.text.front;
  said = c.unwritten.ensures.said;
  status_is = c.unwritten.ensures.status;
})

pub returns-in-Err : goal.returns-in-Err
returns-in-Err g c = inr (record {
  cause = c.in-Err.cut.cause;
  changed = changed_so g.W.ByteSink.fails_with (g.P.Telling.is_too_much) _ c.in-Err.ensures.err;
  source = c.in-Err.cut.file.now;
  mid = _;
  front = c.tell.ensures.front;
  last = c.cut_off.ensures.last;
  said = c.cut_off.ensures.said;
  status_is = c.cut_off.ensures.status;
})
