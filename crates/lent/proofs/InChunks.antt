-- Bytes in chunks: those that a loop has passed, and that a vector's store is a run of stores.
-- Assumes nothing.
use Rattle.std.proofs.Common.{ℕ, ◌-◌, refl, ◌+◌, ◌*◌, ◌≤◌, ◌≡◌, arith, sym, ap, ◌∙◌}
use Rattle.std.proofs.Common.{List, ◌++◌, append_assoc, length, take, drop}
use Rattle.std.proofs.Common.{length-drop, length-take-le}
use Rattle.std.proofs.lemmas.List.{take-append-drop, drop-drop, take_at, drop_at, length-append}
use Rattle.std.proofs.lemmas.List.Edits.{sets, sets-eq}
use Rattle.std.proofs.lemmas.Simd.{put_chunk_is}
use Rattle.std.proofs.Math.Seq.{take-add, length-sets}
use Rattle.text.proofs.Stores.{sets_then}
use lib.Lanes.{put_chunk}

pub stored_at_once : (i : ℕ) (l s : List ℕ) → i + length s ≤ length l → put_chunk i l s ≡ sets l i s
stored_at_once i l s h = put_chunk_is i l s h
    ∙ ap (λ (m : List ℕ). take i l ++ (s ++ m)) (drop-drop (length s) i l)
    ∙ sym (append_assoc (take i l) s (drop (i + length s) l))
    ∙ sym (sets-eq s l i h)

-- ---- one chunk more

pub take_chunk : (n i : ℕ) (s : List ℕ) → take ((i + 1) * n) s ≡ take (i * n) s ++ take n (drop (i * n) s)
take_chunk n i s =
    let more : (i + 1) * n ≡ i * n + n = omega arith in
    ap (λ (j : ℕ). take j s) more ∙ take-add (i * n) n s

pub sets_chunk : (n i at : ℕ) (l s : List ℕ) {m : List ℕ} {r : ℕ} → i * n ≤ length s
    → m ≡ sets l at (take (i * n) s) → r ≡ at + i * n
    → sets m r (take n (drop (i * n) s)) ≡ sets l at (take ((i + 1) * n) s)
sets_chunk n i at l s within e f =
    sets_then l at (take (i * n) s) (take n (drop (i * n) s)) e
    (f ∙ ap (λ (j : ℕ). at + j) (sym (length-take-le (i * n) s within)))
    ∙ ap (sets l at) (sym (take_chunk n i s))

-- ---- what is stored over itself

sets_twice : (l : List ℕ) (p : ℕ) (xs : List ℕ) → p + length xs ≤ length l → sets (sets l p xs) p xs ≡ sets l p xs
sets_twice l p xs h =
    let rest : List ℕ = drop (p + length xs) l in
    let m : List ℕ = sets l p xs in
    let is : m ≡ take p l ++ xs ++ rest = sets-eq xs l p h in
    let long : length (take p l) ≡ p = length-take-le p l (omega arith) in
    let both : length (take p l ++ xs) ≡ p + length xs = omega (arith, long, length-append (take p l) xs) in
    let fits : p + length xs ≤ length m =
    omega (arith, ap length is, length-append (take p l ++ xs) rest, both) in
    let front : take p m ≡ take p l =
    ap (take p) (is ∙ append_assoc (take p l) xs rest) ∙ take_at (take p l) (xs ++ rest) p long in
    let back : drop (p + length xs) m ≡ rest =
    ap (drop (p + length xs)) is ∙ drop_at (take p l ++ xs) rest (p + length xs) both in
    sets-eq xs m p fits ∙ (λ i. front i ++ xs ++ back i) ∙ sym is

-- a front, and what begins in it or at its end
pub sets_over_itself : (j k at : ℕ) (l s : List ℕ) {m : List ℕ} {r : ℕ} → j ≤ k → k ≤ length s
    → at + length s ≤ length l → m ≡ sets l at (take k s) → r ≡ at + j
    → sets m r (drop j s) ≡ sets l at s
sets_over_itself j k at l s {m} {r} h within room e f =
    let mid : List ℕ = take (k - j) (drop j s) in
    let rest : List ℕ = drop k s in
    let before : List ℕ = sets l at (take j s) in
    let whole : j + (k - j) ≡ k = omega arith in
    let front : take k s ≡ take j s ++ mid = ap (λ (n : ℕ). take n s) (sym whole) ∙ take-add j (k - j) s in
    let back : drop j s ≡ mid ++ rest =
    sym (take-append-drop (k - j) (drop j s))
    ∙ ap (λ (t : List ℕ). mid ++ t) (drop-drop (k - j) j s ∙ ap (λ (n : ℕ). drop n s) whole) in
    let long_j : length (take j s) ≡ j = length-take-le j s (omega arith) in
    let long_mid : length mid ≡ k - j = length-take-le (k - j) (drop j s) (omega (arith, length-drop j s)) in
    let stored : m ≡ sets before (at + j) mid =
    e ∙ ap (sets l at) front ∙ sym (sets_then l at (take j s) mid refl (ap (λ (n : ℕ). at + n) (sym long_j))) in
    let again : sets m (at + j) mid ≡ m =
    ap (λ (x : List ℕ). sets x (at + j) mid) stored
    ∙ sets_twice before (at + j) mid (omega (arith, length-sets l at (take j s), long_mid))
    ∙ sym stored in
    (λ i. sets m (f i) (back i))
    ∙ sym (sets_then m (at + j) mid rest refl (ap (λ (n : ℕ). at + j + n) (sym long_mid)))
    ∙ ap (λ (x : List ℕ). sets x (at + j + (k - j)) rest) again
    ∙ sets_then l at (take k s) rest e
    (let at_k : at + j + (k - j) ≡ at + k = omega arith in
    at_k ∙ ap (λ (n : ℕ). at + n) (sym (length-take-le k s within)))
    ∙ ap (sets l at) (take-append-drop k s)
