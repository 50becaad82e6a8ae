-- Two digits a byte, one after the other over blank bytes.
use Rattle.std.proofs.Common.{◌≡◌, ℕ, ◌+◌, ◌*◌, ◌<◌, List, ◌++◌, length, take, replicate, refl, sym, ap, ◌∙◌, arith}
use Rattle.std.proofs.Common.{length-take-le, take_all, slice_index_or}
use Rattle.std.proofs.Math.Seq.{sets, length-sets}
use Rattle.text.proofs.InTurn.{each_in_turn-take}
use Rattle.text.proofs.Stores.{sets_then}
use Rattle.digest.specs.Hex.{hex_of, hex_digits}
use Rattle.digest.proofs.Laws.{hex_length}
use Rattle.digest.proofs.Stored.{take-sets_exactly}
use Rattle.digest.proofs.digits.all.Goals as goal

hex_of-take : (b : List ℕ) (i : ℕ) → i < length b
    → hex_of (take (i + 1) b) ≡ hex_of (take i b) ++ hex_digits 2 (slice_index_or b i 0)
unfolding hex_of
hex_of-take b i h = each_in_turn-take (hex_digits 2) b i 0 h

pub loop-i-init : goal.loop-i-init
unfolding hex_of
loop-i-init c = refl

pub loop-i-preserved : goal.loop-i-preserved
loop-i-preserved c =
    let b : List ℕ = c.args.b.now in
    let i : ℕ = c.loop-i.i in
    let before : length (take i b) ≡ i = length-take-le i b (omega arith) in
    let place : 2 * i ≡ 0 + length (hex_of (take i b)) = omega (arith, hex_length (take i b)) in
    c.put.ensures
    ∙ ap (sets c.loop-i.out (2 * i)) c.two.ensures
    ∙ sets_then (replicate 32 0) 0 (hex_of (take i b)) (hex_digits 2 (slice_index_or b i 0)) c.loop-i.invariant place
    ∙ ap (sets (replicate 32 0) 0) (sym (hex_of-take b i (omega arith)))

pub returns : goal.returns
returns c =
    let b : List ℕ = c.args.b.now in
    let all : take c.loop-i.i b ≡ b = take_all c.loop-i.i b (omega arith) in
    let long : length (hex_of b) ≡ 32 = omega (arith, hex_length b) in
    c.loop-i.invariant
    ∙ ap (λ (s : List ℕ). sets (replicate 32 0) 0 (hex_of s)) all
    ∙ sym (take_all 32 (sets (replicate 32 0) 0 (hex_of b)) (rw length-sets (omega arith)))
    ∙ take-sets_exactly 32 32 (hex_of b) long (omega arith)
