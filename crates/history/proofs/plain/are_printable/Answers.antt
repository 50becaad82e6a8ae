use Rattle.std.proofs.Common.{arith, ap, ◌∙◌, ◌-◌, ◌*◌, ◌/◌, ℕ, length, drop, length-drop}
use Rattle.std.proofs.lemmas.List.{take_all}
use Rattle.std.specs.List.{list_all}
use Rattle.history.specs.Lines.{is_printable}
use Rattle.history.proofs.InSixteens.{all_over_itself}
use Rattle.history.proofs.plain.are_printable.Goals as goal

pub returns : goal.returns
returns c =
    let s = c.args.bytes.now in
    let j : ℕ = length s - 16 in
    all_over_itself is_printable j (length s / 16 * 16) s (omega arith) c.are_sixteens.ensures
    (c.are_sixteen.ensures ∙ ap (list_all is_printable) (take_all 16 (drop j s) (omega (arith, length-drop j s))))

pub returns-then-n-lt16 : goal.returns-then-n-lt16
returns-then-n-lt16 c =
    let s = c.args.bytes.now in
    let j : ℕ = length s - 8 in
    all_over_itself is_printable j 8 s (omega arith) c.are_eight.ensures
    (c.are_eight-then-n-lt16.ensures
    ∙ ap (list_all is_printable) (take_all 8 (drop j s) (omega (arith, length-drop j s))))
