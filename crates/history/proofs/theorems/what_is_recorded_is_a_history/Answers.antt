-- What is lent are bytes.
use Rattle.std.proofs.Common.{arith, ap, ◌∙◌}
use Rattle.history.specs.Logs.{begun_at, entries_in}
use Rattle.history.specs.Recording.{recorder_begun, entries_recorded}
use Rattle.history.proofs.Chain.{Recorded, recorded_begun}
use Rattle.history.proofs.Logs.{log_back}
use Rattle.history.proofs.theorems.what_is_recorded_is_a_history.Goals as goal

pub returns-clause-history : goal.returns-clause-history
returns-clause-history c asked t =
    (recorded_begun c.args.form.now (λ k. omega (arith, c.type_inv.form k)) asked t).history

pub returns-clause-said : goal.returns-clause-said
returns-clause-said c asked t =
    let r : Recorded (begun_at c.args.form.now) (recorder_begun c.args.form.now) asked
    = recorded_begun c.args.form.now (λ k. omega (arith, c.type_inv.form k)) asked t in
    ap entries_in r.written ∙ log_back (entries_recorded (recorder_begun c.args.form.now) asked) r.sayable
