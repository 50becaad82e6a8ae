use Rattle.std.proofs.Common.{arith, ◌∙◌, ap, sym, subst, ◌≡◌, ℕ, length, slice_index_or}
use Rattle.crc32.specs.Crc.{remainder_on}
use Rattle.crc32.proofs.Changes.{AreBytes, word_in}
use Rattle.crc32.proofs.ByChunks.{items_all}
use Rattle.crc32.proofs.ByTable.{by_sixteen}
use Rattle.crc32.proofs.table.after_sixteen.Goals as goal

pub returns : goal.returns
unfolding word_in
returns c =
    let s = c.args.s.now in
    let at : ℕ → ℕ = λ (i : ℕ). slice_index_or s i 0 in
    let long : length s ≡ 16 = omega (arith, c.fits-s) in
    by_sixteen c.args.r c.from_le_bytes.result (at 0) (at 1) (at 2) (at 3) (at 4) (at 5) (at 6) (at 7) (at 8) (at 9)
    (at 10) (at 11) (at 12) (at 13) (at 14) (at 15)
    (subst AreBytes (sym (items_all 16 s long)) c.fits-s) (omega arith) (omega arith)
    (omega (arith, c.from_le_bytes.ensures)) c.tables-t.ensures
    ∙ ap (remainder_on c.args.r) (items_all 16 s long)
