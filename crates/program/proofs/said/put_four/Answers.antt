use Rattle.std.proofs.Common.{◌≡◌, rules}
use Rattle.textio.proofs.Fronts.{writes_then, writes_fails}
use Rattle.program.proofs.said.put_four.Goals as goal

pub returns-in_err-put : goal.returns-in_err-put
returns-in_err-put g c =
    let first : c.as_bytes.result.now ≡ c.args.first.now = search rules in
    writes_fails _ (rw first at c.in_err-put.ensures) c.from_residual.ensures

pub returns-in_err-put-2 : goal.returns-in_err-put-2
returns-in_err-put-2 g c =
    let first : c.as_bytes.result.now ≡ c.args.first.now = search rules in
    let second : c.as_bytes-2.result.now ≡ c.args.second.now = search rules in
    writes_then (rw first at c.in_ok-put.ensures)
    (writes_fails _ (rw second at c.in_err-put-2.ensures) c.from_residual-in_err-put-2.ensures)

pub returns-in_err-put-3 : goal.returns-in_err-put-3
returns-in_err-put-3 g c =
    let first : c.as_bytes.result.now ≡ c.args.first.now = search rules in
    let second : c.as_bytes-2.result.now ≡ c.args.second.now = search rules in
    let third : c.as_bytes-3.result.now ≡ c.args.third.now = search rules in
    writes_then (rw first at c.in_ok-put.ensures)
    (writes_then (rw second at c.in_ok-put-2.ensures)
    (writes_fails _ (rw third at c.in_err-put-3.ensures) c.from_residual-in_err-put-3.ensures))

pub returns : goal.returns
returns g c =
    let first : c.as_bytes.result.now ≡ c.args.first.now = search rules in
    let second : c.as_bytes-2.result.now ≡ c.args.second.now = search rules in
    let third : c.as_bytes-3.result.now ≡ c.args.third.now = search rules in
    let last : c.as_bytes-4.result.now ≡ c.args.last.now = search rules in
    writes_then (rw first at c.in_ok-put.ensures)
    (writes_then (rw second at c.in_ok-put-2.ensures)
    (writes_then (rw third at c.in_ok-put-3.ensures) (rw last at c.put-4.ensures)))
