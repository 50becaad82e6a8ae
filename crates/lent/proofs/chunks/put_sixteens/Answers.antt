use Rattle.std.proofs.Common.{arith, ap, ◌∙◌, ◌≡◌, ◌*◌, ◌+◌, ◌/◌, ℕ, length, take, drop}
use Rattle.std.proofs.lemmas.List.Edits.{sets}
use Rattle.lent.proofs.InChunks.{sets_chunk}
use Rattle.lent.proofs.chunks.put_sixteens.Goals as goal

pub loop-i-preserved : goal.loop-i-preserved
loop-i-preserved c =
    let s = c.args.src.now in
    let i = c.loop-i.i in
    let place : 16 * i ≡ i * 16 = omega arith in
    c.put_sixteen.ensures
    ∙ ap (λ (j : ℕ). sets c.loop-i.out (c.args.at + 16 * i) (take 16 (drop j s))) place
    ∙ sets_chunk 16 i c.args.at c.args.out.now s (omega arith) c.loop-i.invariant (omega arith)

pub returns : goal.returns
returns c =
    let s = c.args.src.now in
    let all : c.loop-i.i * 16 ≡ length s / 16 * 16 = omega arith in
    c.loop-i.invariant ∙ ap (λ (k : ℕ). sets c.args.out.now c.args.at (take k s)) all
