use Rattle.std.proofs.Common.{◌≡◌, rules}
use Rattle.textio.proofs.Fronts.{writes_then, writes_fails}
use Rattle.program.proofs.run.put_two.Goals as goal

pub returns-in_err-put : goal.returns-in_err-put
returns-in_err-put g c =
    let first : c.as_bytes.result.now ≡ c.args.first.now = search rules in
    writes_fails _ (rw first at c.in_err-put.ensures) c.from_residual.ensures

pub returns : goal.returns
returns g c =
    let first : c.as_bytes.result.now ≡ c.args.first.now = search rules in
    let last : c.as_bytes-2.result.now ≡ c.args.last.now = search rules in
    writes_then (rw first at c.in_ok-put.ensures) (rw last at c.put-2.ensures)
