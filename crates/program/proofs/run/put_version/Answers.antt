use Rattle.std.proofs.Common.{◌≡◌, rules}
use Rattle.textio.proofs.Fronts.{writes_then, writes_fails}
use Rattle.program.proofs.run.put_version.Goals as goal

pub returns-in_err-put : goal.returns-in_err-put
returns-in_err-put g c =
    let first : c.as_bytes.result.now ≡ c.args.about.now.name.now = search rules in
    writes_fails _ (rw first at c.in_err-put.ensures) c.from_residual.ensures

pub returns : goal.returns
returns g c =
    let first : c.as_bytes.result.now ≡ c.args.about.now.name.now = search rules in
    writes_then (rw first at c.in_ok-put.ensures) (rw c.version_line.ensures at c.put_two.ensures)
