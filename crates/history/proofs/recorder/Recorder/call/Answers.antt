use Rattle.std.proofs.Common.{length}
use Rattle.history.specs.Calls.{call_seen}
use Rattle.history.specs.Entries.{call}
use Rattle.history.specs.Recording.{recorded_by}
use Rattle.history.proofs.Chain.{recorded_if}
use Rattle.history.proofs.Served.{served_ok}
use Rattle.history.proofs.recorder.Recorder.call.Goals as goal

pub returns-clause-served : goal.returns-clause-served
returns-clause-served c sayable room free =
    let e = call (call_seen c.args.made.now) in
    served_ok c.record.result (recorded_by c.args.self.now e (length c.args.out.now)) c.record.ensures.says
    (recorded_if c.args.self.now e (length c.args.out.now) room sayable free)
