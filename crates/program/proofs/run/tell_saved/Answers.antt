use Rattle.std.proofs.Common.{[], inr}
use Rattle.textio.specs.declared.lines.Failure.TheVariants.{Write}
use Rattle.program.specs.declared.telling.CutCause.TheVariants.{Log}
use Rattle.program.proofs.Doing.{not_changed}
use Rattle.program.proofs.run.tell_saved.Goals as goal

pub returns-in-Err : goal.returns-in-Err
returns-in-Err g c = inr (record {
  cause = Log (Write c.in-Err.error);
  changed = not_changed _;
  source = [];
  said = c.unwritten.ensures.said;
  status_is = c.unwritten.ensures.status;
})

pub returns-in-Err-keep : goal.returns-in-Err-keep
returns-in-Err-keep g c = inr (record {
  cause = Log (Write c.in-Err-keep.error);
  changed = not_changed _;
  source = [];
  said = c.unwritten-in-Err-keep.ensures.said;
  status_is = c.unwritten-in-Err-keep.ensures.status;
})
