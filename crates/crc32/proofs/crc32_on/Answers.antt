use Rattle.std.proofs.Common.{arith, ℕ, List, [], ◌≡◌, sym, ap, ◌∙◌, bit_xor, length, ◌/◌, slice_index_or}
use Rattle.std.proofs.lemmas.List.{take_all}
use Rattle.crc32.specs.Crc.{all_ones, remainder_on, crc32_on}
use Rattle.crc32.proofs.ByChunks.{remainder_over, remainder_over-nil, remainder_over-take, items_of, by_chunks}
use Rattle.crc32.proofs.crc32_on.Goals as goal

pub loop-sixteen-init : goal.loop-sixteen-init
loop-sixteen-init c = sym (remainder_over-nil (bit_xor all_ones c.args.sum))

pub loop-sixteen-preserved : goal.loop-sixteen-preserved
loop-sixteen-preserved c =
    let sixteens = c.as_chunks.result.0.now in
    let i = c.loop-sixteen.sixteen-index in
    let chunk : List ℕ = slice_index_or sixteens i [] in
    c.after_sixteen-r.ensures
    ∙ ap (λ (r : ℕ). remainder_on r chunk) c.loop-sixteen.invariant
    ∙ sym (remainder_over-take (bit_xor all_ones c.args.sum) sixteens i c.loop-sixteen-test.true)

pub loop-a-init : goal.loop-a-init
loop-a-init c = sym (remainder_over-nil c.loop-sixteen.r)

pub loop-a-preserved : goal.loop-a-preserved
loop-a-preserved c =
    let fours = c.as_chunks-2.result.0.now in
    let few = c.as_chunks.result.1.now in
    let four : List ℕ = slice_index_or fours c.loop-a.a-index [] in
    c.after_four-r.ensures
    ∙ ap (remainder_on c.loop-a.r) (items_of c.loop-a.a-index few c.as_chunks-2.ensures.front (omega arith))
    ∙ ap (λ (r : ℕ). remainder_on r four) c.loop-a.invariant
    ∙ sym (remainder_over-take c.loop-sixteen.r fours c.loop-a.a-index c.loop-a-test.true)

pub returns : goal.returns
unfolding crc32_on
returns c =
    let s = c.args.bytes.now in
    let few = c.as_chunks.result.1.now in
    let r : ℕ = bit_xor all_ones c.args.sum in
    let sixteens : c.loop-sixteen.r ≡ remainder_over r c.as_chunks.result.0.now =
    c.loop-sixteen.invariant ∙ ap (remainder_over r) (take_all c.loop-sixteen.sixteen-index _ (omega arith)) in
    let fours : c.loop-a.r ≡ remainder_over c.loop-sixteen.r c.as_chunks-2.result.0.now =
    c.loop-a.invariant ∙ ap (remainder_over c.loop-sixteen.r) (take_all c.loop-a.a-index _ (omega arith)) in
    let rest : c.loop-b.r ≡ remainder_on c.loop-a.r c.as_chunks-2.result.1.now =
    c.loop-b.invariant ∙ ap (remainder_on c.loop-a.r) (take_all c.loop-b.b-index _ (omega arith)) in
    ap (bit_xor all_ones)
    (rest
    ∙ (λ i. remainder_on ((fours ∙ ap (remainder_over c.loop-sixteen.r) c.as_chunks-2.ensures.front) i)
    (c.as_chunks-2.ensures.back i))
    ∙ by_chunks 4 (length few / 4) c.loop-sixteen.r few (omega arith)
    ∙ (λ i. remainder_on ((sixteens ∙ ap (remainder_over r) c.as_chunks.ensures.front) i) (c.as_chunks.ensures.back i))
    ∙ by_chunks 16 (length s / 16) r s (omega arith))
