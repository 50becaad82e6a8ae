use Rattle.std.proofs.Common.{ℕ, List, ◌≡◌, length, arith, slice_index_or}
use Rattle.textio.proofs.Each.{each_more, each_fails}
use Rattle.textio.proofs.Fronts.{writes_all}
use Rattle.report.specs.Frame.{escaped}
use Rattle.report.specs.Frame.{html_text}
use Rattle.report.proofs.frame.put_html.Goals as goal

pub loop-k-preserved : goal.loop-k-preserved
loop-k-preserved g c =
    let shown : ℕ → List ℕ = λ k. escaped c.args.is_ascii (slice_index_or c.args.text.now k 0) in
    each_more shown 0 c.loop-k.k _ c.loop-k.k _ _ _ (omega arith) (omega arith) c.loop-k.invariant
    c.in_ok-put_escaped.ensures.whole

pub returns-in_err-put_escaped : goal.returns-in_err-put_escaped
unfolding html_text
returns-in_err-put_escaped g c =
    let shown : ℕ → List ℕ = λ k. escaped c.args.is_ascii (slice_index_or c.args.text.now k 0) in
    each_fails shown 0 c.loop-k.k (length c.args.text.now) c.loop-k.k (omega arith) c.loop-k-test.true
    c.loop-k.invariant c.in_err-put_escaped.ensures c.from_residual.ensures

pub returns : goal.returns
unfolding html_text
returns g c =
    let all : c.loop-k.k ≡ length c.args.text.now = omega (arith, c.loop-k-test.false, c.loop-k.auto.k-end) in
    writes_all _ (rw all at c.loop-k.invariant)
