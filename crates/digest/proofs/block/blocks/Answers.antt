use Rattle.std.proofs.Common.{◌≡◌, ℕ, ◌+◌, ◌-◌, ◌*◌, List, take, drop, sym, refl, ◌∙◌, add-one, arith}
use Rattle.digest.specs.Rounds.{block_of}
use Rattle.digest.specs.Md5.{blocks_of}
use Rattle.digest.specs.declared.Buffer.{Buffer}
use Rattle.digest.proofs.block.blocks.Goals as goal

one_more : (s : List ℕ) (q p r : Buffer) (k : ℕ)
    → r ≡ block_of (take (k * 64 + 64 - k * 64) (drop (k * 64) s)) p → p ≡ blocks_of k s q → r ≡ blocks_of (k + 1) s q
unfolding blocks_of
one_more s q p r k e f =
    let long : k * 64 + 64 - k * 64 ≡ 64 = omega arith in
    e ∙ (λ i. block_of (take (long i) (drop (k * 64) s)) (f i)) ∙ sym (rw add-one)

pub loop-k-init : goal.loop-k-init
unfolding blocks_of
loop-k-init c = refl

pub loop-k-preserved : goal.loop-k-preserved
loop-k-preserved c = one_more c.args.s.now _ _ _ c.loop-k.k c.block-p.ensures c.loop-k.invariant
