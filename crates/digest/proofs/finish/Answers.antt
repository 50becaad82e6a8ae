-- The whole blocks of s, and then what is left of it with the padding.
use Rattle.std.proofs.Common.{ℕ, ◌-◌, ◌*◌, ◌/◌, List, ◌++◌, length, take, drop, ap, ◌∙◌, arith, length-drop, take_all}
use Rattle.digest.specs.Padding.{padding}
use Rattle.digest.specs.Md5.{whole_blocks, digest_bytes}
use Rattle.digest.proofs.Blocks.{finished}
use Rattle.digest.proofs.finish.Goals as goal

pub returns : goal.returns
returns c =
    let s : List ℕ = c.args.s.now in
    let b : ℕ = c.args.bits in
    let k : ℕ = length s / 64 * 64 in
    let rest : List ℕ = take (length s - k) (drop k s) in
    let left = take_all (length s - k) (drop k s) (simp length-drop (omega arith)) in
    c.digest.ensures
    ∙ ap digest_bytes (
    c.last.ensures
    ∙ ap (whole_blocks (rest ++ padding (length rest) b)) c.blocks-p.ensures
    ∙ finished s rest b c.args.q left
    )
