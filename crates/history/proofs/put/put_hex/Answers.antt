use Rattle.std.proofs.Common.{arith, ap, sym, ◌∙◌, ◌≡◌, ◌+◌, ◌*◌, ℕ, List, ◌++◌, length, length-take-le, take}
use Rattle.std.proofs.lemmas.List.Edits.{sets}
use Rattle.text.proofs.Stores.{sets_then}
use Rattle.history.specs.Lines.{hex_text}
use Rattle.history.proofs.Fits.{length-hex_text}
use Rattle.history.proofs.Writing.{hex_text-take}
use Rattle.history.proofs.put.put_hex.Goals as goal

pub loop-i-preserved : goal.loop-i-preserved
loop-i-preserved c =
    let s = c.args.s.now in
    let i = c.loop-i.i in
    let out = c.args.out.now in
    let before : List ℕ = hex_text (take i s) in
    let place : c.args.at + 2 * i ≡ c.args.at + length before =
    omega (arith, length-hex_text (take i s), length-take-le i s) in
    c.put.ensures
    ∙ sets_then out c.args.at before c.hex2.result c.loop-i.invariant place
    ∙ ap (λ (l : List ℕ). sets out c.args.at (before ++ l)) c.hex2.ensures
    ∙ ap (sets out c.args.at) (sym (hex_text-take s i (omega arith)))
