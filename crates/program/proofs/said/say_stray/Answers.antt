use Rattle.std.proofs.Common.{◌≡◌, rules}
use Rattle.textio.proofs.Fronts.{writes_then, writes_fails}
use Rattle.recorded.specs.Following.{stray_seen, stray_text}
use Rattle.program.proofs.said.say_stray.Goals as goal

pub returns-in_err-put : goal.returns-in_err-put
returns-in_err-put g c =
    let text : c.deref.result.now ≡ stray_text (stray_seen c.args.line.now) = search rules in
    writes_fails _ (rw text at c.in_err-put.ensures) c.from_residual.ensures

pub returns : goal.returns
returns g c =
    let text : c.deref.result.now ≡ stray_text (stray_seen c.args.line.now) = search rules in
    writes_then (rw text at c.in_ok-put.ensures) c.put-3.ensures
