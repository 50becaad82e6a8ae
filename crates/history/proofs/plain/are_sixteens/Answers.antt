use Rattle.std.proofs.Common.{arith, ap, ◌∙◌, ◌≡◌, ◌*◌, ◌/◌, ℕ, length, take, drop}
use Rattle.std.specs.List.{list_all}
use Rattle.history.specs.Lines.{is_printable}
use Rattle.history.proofs.InSixteens.{all_chunk}
use Rattle.history.proofs.plain.are_sixteens.Goals as goal

pub loop-i-preserved : goal.loop-i-preserved
loop-i-preserved c =
    let s = c.args.s.now in
    let i = c.loop-i.i in
    let place : 16 * i ≡ i * 16 = omega arith in
    all_chunk is_printable 16 i s c.loop-i.invariant
    (c.are_sixteen-all.ensures ∙ ap (λ (j : ℕ). list_all is_printable (take 16 (drop j s))) place)

pub returns : goal.returns
returns c =
    let s = c.args.s.now in
    let all : c.loop-i.i * 16 ≡ length s / 16 * 16 = omega arith in
    c.loop-i.invariant ∙ ap (λ (k : ℕ). list_all is_printable (take k s)) all
