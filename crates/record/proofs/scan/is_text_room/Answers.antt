-- Each byte is what the window wants at its place.
use Rattle.std.proofs.Common.{ℕ, ◌≤◌, length, take, drop, ◌+◌, ◌-◌, ap, ◌∙◌, List, arith, slice_index_or, ltb-true}
use Rattle.std.proofs.Common.{ltb-false}
use Rattle.words.specs.Texts.{is_text_byte}
use Rattle.record.specs.Legal.{is_zero}
use Rattle.record.proofs.Sifted.{one_sifted}
use Rattle.record.proofs.Window.{wanted_space, wanted_zero, low_used, low_unused}
use Rattle.record.proofs.scan.is_text_room.Goals as goal

pub loop-k-preserved : goal.loop-k-preserved
loop-k-preserved c =
    let n = c.args.count in
    let m = length c.args.bytes.now in
    let k = c.loop-k.k in
    let b = slice_index_or c.args.bytes.now k 0 in
    let small : b ≤ 0xFF = omega (arith, c.type_inv.bytes k) in
    let seen = ap
    (λ (l : List ℕ). slice_index_or (take ((128 - n + m) - (128 - n)) (drop (128 - n) l)) k 0) c.window.ensures in
    one_sifted is_text_byte is_zero _ _ c.loop-k.invariant c.loop-k-test.true
    (λ e. low_used b _ _ c.min.ensures small
    (seen ∙ wanted_space n m k c.requires.used c.requires.room c.loop-k-test.true (ltb-true k n e)))
    (λ e. low_unused b _ _ c.min.ensures
    (seen ∙ wanted_zero n m k c.requires.used c.requires.room c.loop-k-test.true (ltb-false k n e)))
