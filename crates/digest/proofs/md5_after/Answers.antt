-- Both parts in one block, or a block filled and the rest finished after it.
use Rattle.std.proofs.Common.{◌≡◌, ℕ, ◌+◌, ◌-◌, ◌%◌, ◌^◌, List, ◌++◌, length, take, drop, replicate, sym, ap, ◌∙◌}
use Rattle.std.proofs.Common.{arith, length-append, length-drop, length-take-le, take_all, append_assoc, rules, ◌≤◌}
use Rattle.std.proofs.lemmas.List.{take-append-drop, length-replicate}
use Rattle.std.proofs.Math.Seq.{sets, length-sets}
use Rattle.text.proofs.Stores.{sets_then}
use Rattle.digest.specs.Md5.{md5_of, finishing}
use Rattle.digest.specs.Padding.{bit_length}
use Rattle.digest.specs.Rounds.{block_of}
use Rattle.digest.proofs.Blocks.{md5_after_block}
use Rattle.digest.proofs.Stored.{take-sets_exactly}
use Rattle.digest.proofs.md5_after.Goals as goal

-- both parts in the block
put_both : (h s : List ℕ) {t u : List ℕ} → length h ≡ 8 → t ≡ sets (replicate 64 0) 0 h → u ≡ sets t 8 s → length s ≤ 56
    → take (8 + length s) u ≡ h ++ s
put_both h s eight et eu fits =
    ap (take (8 + length s)) (eu ∙ sets_then (replicate 64 0) 0 h s et (omega arith))
    ∙ take-sets_exactly 64 (8 + length s) (h ++ s) (simp length-append (omega arith)) (omega arith)

pub returns-then-s-lt56 : goal.returns-then-s-lt56
returns-then-s-lt56 c = grind (arith, put_both)

pub put-requires-2 : goal.put-requires-2
put-requires-2 c = omega (arith, length-take-le 56 c.args.s.now c.if-s-lt56.false)

pub returns : goal.returns
returns c =
    let h : List ℕ = c.args.head in
    let s : List ℕ = c.args.s.now in
    let eight : length h ≡ 8 = search rules in
    let part = length-take-le 56 s c.if-s-lt56.false in
    let full : 64 ≡ 8 + length (take 56 s) = omega arith in
    let block : List ℕ = c.put-2.new.out in
    let long : length block ≡ 64 = rw (c.put-2.ensures, c.put.ensures) (simp (length-sets, length-replicate)) in
    let filled : block ≡ h ++ take 56 s = sym (take_all 64 block (omega arith)) ∙ ap (λ (n : ℕ). take n block) full
    ∙ put_both h (take 56 s) eight c.put.ensures c.put-2.ensures (omega arith) in
    let left = c.block-q.ensures ∙ (λ i. block_of (filled i) (c.start.ensures i)) in
    let rest = take_all (length s - 56) (drop 56 s) (simp length-drop (omega arith)) in
    let bits : c.wrapping_add_u64.result ≡ bit_length (64 + length (drop 56 s)) =
    c.wrapping_add_u64.ensures.value ∙ ap (λ (n : ℕ). (n + 64) % 2 ^ 64) c.bit_length.ensures
    ∙ simp length-drop (omega arith) in
    c.finish.ensures
    ∙ (λ i. finishing (left i) (rest i) (bits i))
    ∙ sym (md5_after_block (h ++ take 56 s) (drop 56 s) (simp length-append (omega arith)))
    ∙ ap md5_of (append_assoc h (take 56 s) (drop 56 s) ∙ ap (λ (l : List ℕ). h ++ l) (take-append-drop 56 s))
