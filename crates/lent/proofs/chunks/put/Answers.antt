use Rattle.std.proofs.Common.{arith, ap, ◌∙◌, ◌+◌, ◌-◌, ◌*◌, ◌/◌, ℕ, length, drop, length-drop}
use Rattle.std.proofs.lemmas.List.{take_all}
use Rattle.std.proofs.lemmas.List.Edits.{sets}
use Rattle.lent.proofs.InChunks.{sets_over_itself}
use Rattle.lent.proofs.chunks.put.Goals as goal

pub returns-then-n-lt16 : goal.returns-then-n-lt16
returns-then-n-lt16 c =
    let s = c.args.src.now in
    let j : ℕ = length s - 8 in
    c.put_eight-then-n-lt16.ensures
    ∙ ap (sets c.put_eight.new.out (c.args.at + length s - 8))
    (take_all 8 (drop j s) (omega (arith, length-drop j s)))
    ∙ sets_over_itself j 8 c.args.at c.args.out.now s (omega arith) (omega arith) (omega arith) c.put_eight.ensures
    (omega arith)

pub returns : goal.returns
returns c =
    let s = c.args.src.now in
    let j : ℕ = length s - 16 in
    c.put_sixteen.ensures
    ∙ ap (sets c.put_sixteens.new.out (c.args.at + length s - 16))
    (take_all 16 (drop j s) (omega (arith, length-drop j s)))
    ∙ sets_over_itself j (length s / 16 * 16) c.args.at c.args.out.now s (omega arith) (omega arith) (omega arith)
    c.put_sixteens.ensures (omega arith)
