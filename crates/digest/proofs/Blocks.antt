-- Laws of `blocks_of` and `whole_blocks`: blocks in two goes, and the digest of a message in two parts.
-- Assumes nothing.
use Rattle.std.proofs.Common.{◌≡◌, ℕ, zero, suc, ◌+◌, ◌*◌, ◌/◌, ◌%◌, ◌≤◌, List, [], ◌++◌, length, take, drop}
use Rattle.std.proofs.Common.{sym, refl, ap, ◌∙◌, append_assoc, add-zero, add-suc, arith, length-append}
use Rattle.std.proofs.Common.{length-drop, drop_of_length-le, take_all, drop-drop}
use Rattle.std.proofs.lemmas.List.{take-append-le, drop-append-le}
use Rattle.std.proofs.Math.Path.{◌≡⟨◌⟩◌, ◌∎}
use Rattle.digest.specs.Padding.{zeros_after, bit_length, padding}
use Rattle.digest.specs.Rounds.{block_of}
use Rattle.digest.specs.Md5.{start_words, blocks_of, whole_blocks, md5_of, finishing}
use Rattle.digest.specs.declared.Buffer.{Buffer}

blocks_of-add : (k m : ℕ) (xs : List ℕ) (q : Buffer)
    → blocks_of (k + m) xs q ≡ blocks_of m (drop (k * 64) xs) (blocks_of k xs q)
unfolding blocks_of
blocks_of-add k zero xs q = ap (λ (n : ℕ). blocks_of n xs q) (add-zero k)
blocks_of-add k (suc m) xs q =
    let e : k * 64 + m * 64 ≡ (k + m) * 64 = omega arith in
    let there : drop ((k + m) * 64) xs ≡ drop (m * 64) (drop (k * 64) xs) =
    sym (drop-drop (m * 64) (k * 64) xs ∙ ap (λ (n : ℕ). drop n xs) e) in
    ap (λ (n : ℕ). blocks_of n xs q) (add-suc k m) ∙ (λ i. block_of (take 64 (there i)) (blocks_of-add k m xs q i))

blocks_of-append : (k : ℕ) (s p : List ℕ) (q : Buffer) → k * 64 ≤ length s → blocks_of k (s ++ p) q ≡ blocks_of k s q
unfolding blocks_of
blocks_of-append zero s p q h = refl
blocks_of-append (suc k) s p q h =
    let before : k * 64 ≤ length s = omega arith in
    let inside : 64 ≤ length (drop (k * 64) s) = simp length-drop (omega arith) in
    let there = ap (take 64) (drop-append-le (k * 64) s p before) ∙ take-append-le 64 (drop (k * 64) s) p inside in
    (λ i. block_of (there i) (blocks_of-append k s p q before i))

-- what s leaves over of its whole blocks goes before p
pub blocks_append : (s p : List ℕ) (q : Buffer)
    → whole_blocks (s ++ p) q ≡ whole_blocks (drop (length s / 64 * 64) s ++ p) (whole_blocks s q)
blocks_append s p q =
    let n : ℕ = length s / 64 in
    let m : ℕ = length (drop (n * 64) s ++ p) / 64 in
    let count : length (s ++ p) / 64 ≡ n + m = simp (length-append, length-drop) (omega arith) in
    let inside : n * 64 ≤ length s = omega arith in
    blocks_of (length (s ++ p) / 64) (s ++ p) q ≡⟨ ap (λ (k : ℕ). blocks_of k (s ++ p) q) count ⟩
    blocks_of (n + m) (s ++ p) q ≡⟨ blocks_of-add n m (s ++ p) q ⟩
    blocks_of m (drop (n * 64) (s ++ p)) (blocks_of n (s ++ p) q)
    ≡⟨ (λ i. blocks_of m (drop-append-le (n * 64) s p inside i) (blocks_of-append n s p q inside i)) ⟩
    blocks_of m (drop (n * 64) s ++ p) (blocks_of n s q) ∎

pub block_first : (t p : List ℕ) (q : Buffer) → length t ≡ 64 → whole_blocks (t ++ p) q ≡ whole_blocks p (block_of t q)
unfolding blocks_of
block_first t p q h =
    let none_left : drop (length t / 64 * 64) t ≡ [] = drop_of_length-le t {i = length t / 64 * 64} (omega arith) in
    let one : whole_blocks t q ≡ block_of t q =
    ap (λ (k : ℕ). blocks_of (k / 64) t q) h ∙ ap (λ (l : List ℕ). block_of l q) (take_all 64 t (omega arith)) in
    blocks_append t p q ∙ (λ i. whole_blocks (none_left i ++ p) (one i))

padding_by_rest : (m n b : ℕ) → m % 64 ≡ n % 64 → padding m b ≡ padding n b
unfolding padding zeros_after
padding_by_rest m n b e = grind arith

-- the blocks of s and then the last ones are those of s with its padding
pub finished : (s rest : List ℕ) (b : ℕ) (q : Buffer) → rest ≡ drop (length s / 64 * 64) s
    → whole_blocks (rest ++ padding (length rest) b) (whole_blocks s q) ≡ whole_blocks (s ++ padding (length s) b) q
finished s rest b q e = grind (arith, length-drop, padding_by_rest, blocks_append)

pub md5_from_start : (s : List ℕ) {r : List ℕ} {b : ℕ} {q : Buffer} → b ≡ bit_length (length s) → q ≡ start_words
    → r ≡ finishing q s b → r ≡ md5_of s
unfolding md5_of
md5_from_start s eb eq er = er ∙ (λ i. finishing (eq i) s (eb i))

-- the digest of t and then s is finished from what the block t left
pub md5_after_block : (t s : List ℕ) → length t ≡ 64
    → md5_of (t ++ s) ≡ finishing (block_of t start_words) s (bit_length (64 + length s))
unfolding md5_of
md5_after_block t s h = grind (arith, length-append, padding_by_rest, append_assoc, block_first)
