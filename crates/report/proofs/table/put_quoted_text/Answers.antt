use Rattle.std.proofs.Common.{ℕ, ◌+◌, ◌==◌, List, ◌≡◌, length, arith, slice_index_or}
use Rattle.textio.proofs.Each.{each_more, each_fails}
use Rattle.textio.proofs.Fronts.{writes_all}
use Rattle.report.specs.Table.{quoted_byte}
use Rattle.report.specs.Table.{quoted_text}
use Rattle.report.proofs.table.put_quoted_text.Goals as goal

pub loop-k-preserved : goal.loop-k-preserved
loop-k-preserved g c =
    let shown : ℕ → List ℕ = λ k. quoted_byte (k + 1 == length c.args.text.now) (slice_index_or c.args.text.now k 0) in
    each_more shown 0 c.loop-k.k _ c.loop-k.k _ _ _ (omega arith) (omega arith) c.loop-k.invariant
    c.in_ok-put_quoted_byte.ensures.whole

pub returns-in_err-put_quoted_byte : goal.returns-in_err-put_quoted_byte
unfolding quoted_text
returns-in_err-put_quoted_byte g c =
    let shown : ℕ → List ℕ = λ k. quoted_byte (k + 1 == length c.args.text.now) (slice_index_or c.args.text.now k 0) in
    each_fails shown 0 c.loop-k.k (length c.args.text.now) c.loop-k.k (omega arith) c.loop-k-test.true
    c.loop-k.invariant c.in_err-put_quoted_byte.ensures c.from_residual.ensures

pub returns : goal.returns
unfolding quoted_text
returns g c =
    let all : c.loop-k.k ≡ (length c.args.text.now) = omega (arith, c.loop-k-test.false, c.loop-k.auto.k-end) in
    writes_all _ (rw all at c.loop-k.invariant)
