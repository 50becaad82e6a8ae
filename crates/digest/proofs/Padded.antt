-- The padding as `tail::last` lays it out, over two blocks of zeros.
-- Assumes nothing.
use Rattle.std.proofs.Common.{◌≡◌, ℕ, ◌+◌, ◌-◌, ◌*◌, ◌/◌, ◌<◌, List, [], ◌∷◌, ◌++◌, length, take, set}
use Rattle.std.proofs.Common.{replicate, ap, ◌∙◌, append_assoc, arith, length-append, length-set}
use Rattle.std.proofs.lemmas.List.{length-replicate}
use Rattle.std.proofs.Math.Seq.{sets, length-sets}
use Rattle.text.proofs.Stores.{sets_snoc}
use Rattle.std.specs.Int.{to_le_bytes, w64}
use Rattle.digest.specs.Padding.{padding, zeros_after}
use Rattle.digest.proofs.Stored.{take-sets_zeros, take-sets_end}

-- the two blocks, up to the end of what is used of them: what is left of the message, the "1" bit, zeros, the length
pub padded_out : (rest : List ℕ) (b : ℕ) {t u l : List ℕ} → length rest < 64 → t ≡ sets (replicate 128 0) 0 rest
    → u ≡ sets (set t (length rest) 0x80) ((length rest + 72) / 64 * 64 - 8) l → l ≡ to_le_bytes w64 b
    → take ((length rest + 72) / 64 * 64) u ≡ rest ++ padding (length rest) b
unfolding padding zeros_after
padded_out rest b {t} {u} {l} h et eu el =
    let eight : length l ≡ 8 = ap length el in
    let e : ℕ = (length rest + 72) / 64 * 64 in
    let marked : List ℕ = rest ++ 0x80 ∷ [] in
    let m : List ℕ = set t (length rest) 0x80 in
    let one_more : length marked ≡ length rest + 1 = simp length-append (omega arith) in
    let zeros : e - 8 - length marked ≡ zeros_after (length rest) = omega arith in
    let long : length m ≡ 128 = rw et (simp (length-set, length-sets, length-replicate)) in
    let place : length rest ≡ 0 + length rest = omega arith in
    let front = ap (take (e - 8)) (sets_snoc (replicate 128 0) 0 rest 0x80 et place)
    ∙ take-sets_zeros 128 (e - 8) marked (omega arith) (omega arith) in
    ap (take e) eu
    ∙ take-sets_end m l (e - 8) e (omega arith) (omega arith)
    ∙ (λ i. (front ∙ ap (λ (z : ℕ). marked ++ replicate z 0) zeros) i ++ el i)
    ∙ simp append_assoc
