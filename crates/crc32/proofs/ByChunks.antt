-- A text is gone over in chunks, and what is left is gone over behind them.
--   remainder_over r xss   the remainder after the bytes of each of xss
--   items n k xs           n of xs, from the place k on
-- Assumes nothing.
use Rattle.std.proofs.Common.{ℕ, zero, suc, ◌+◌, ◌*◌, ◌/◌, ◌<◌, ◌≤◌, ◌≡◌, arith, refl, sym, ap, ◌∙◌}
use Rattle.std.proofs.Common.{List, [], ◌∷◌, ◌++◌, length, take, drop, take-suc, add-one, slice_index_or}
use Rattle.std.proofs.Common.{length-drop, length-take-le}
use Rattle.std.proofs.lemmas.List.{drop-drop, take-append-drop}
use Rattle.std.specs.Simd.{first_chunks}
use Rattle.crc32.specs.Crc.{remainder_on}
use Rattle.crc32.proofs.GoesOn.{remainder_on-append}

unfoldable pub remainder_over : ℕ → List (List ℕ) → ℕ
remainder_over r [] = r
remainder_over r (xs ∷ xss) = remainder_over (remainder_on r xs) xss

pub remainder_over-nil : (r : ℕ) → remainder_over r [] ≡ r
unfolding remainder_over
remainder_over-nil r = refl

remainder_over-append : (r : ℕ) (xss yss : List (List ℕ))
    → remainder_over r (xss ++ yss) ≡ remainder_over (remainder_over r xss) yss
unfolding remainder_over
remainder_over-append r [] yss = refl
remainder_over-append r (xs ∷ xss) yss = remainder_over-append (remainder_on r xs) xss yss

-- one more
pub remainder_over-take : (r : ℕ) (xss : List (List ℕ)) (i : ℕ) → i < length xss
    → remainder_over r (take (i + 1) xss) ≡ remainder_on (remainder_over r (take i xss)) (slice_index_or xss i [])
unfolding remainder_over
remainder_over-take r xss i h =
    ap (remainder_over r) (ap (λ (k : ℕ). take k xss) (add-one i) ∙ take-suc xss i [] h)
    ∙ remainder_over-append r (take i xss) (slice_index_or xss i [] ∷ [])

pub by_chunks : (n k r : ℕ) (s : List ℕ) → k * n ≤ length s
    → remainder_on (remainder_over r (first_chunks n k s)) (drop (k * n) s) ≡ remainder_on r s
unfolding remainder_over
by_chunks n zero r s h =
    let none : zero * n ≡ 0 = omega arith in ap (λ (j : ℕ). remainder_on r (drop j s)) none
by_chunks n (suc k) r s h =
    let same : suc k * n ≡ n + k * n = omega arith in
    let more : drop (suc k * n) s ≡ drop (k * n) (drop n s) =
    ap (λ (j : ℕ). drop j s) same ∙ sym (drop-drop (k * n) n s) in
    let fits : k * n ≤ length (drop n s) = omega (arith, length-drop n s) in
    ap (remainder_on (remainder_over (remainder_on r (take n s)) (first_chunks n k (drop n s)))) more
    ∙ by_chunks n k (remainder_on r (take n s)) (drop n s) fits
    ∙ sym (remainder_on-append r (take n s) (drop n s))
    ∙ ap (remainder_on r) (take-append-drop n s)

-- ---- the items of an array

abbrev pub items : ℕ → ℕ → List ℕ → List ℕ
items zero k xs = []
items (suc n) k xs = slice_index_or xs k 0 ∷ items n (suc k) xs

items_past : (n k x : ℕ) (xs : List ℕ) → items n (suc k) (x ∷ xs) ≡ items n k xs
items_past zero k x xs = refl
items_past (suc n) k x xs = ap (λ (l : List ℕ). slice_index_or xs k 0 ∷ l) (items_past n (suc k) x xs)

pub items_all : (n : ℕ) (xs : List ℕ) → length xs ≡ n → items n 0 xs ≡ xs
items_all zero [] h = refl
items_all zero (x ∷ xs) h = absurd (omega arith)
items_all (suc n) [] h = absurd (omega arith)
items_all (suc n) (x ∷ xs) h = ap (λ (l : List ℕ). x ∷ l) (items_past n 0 x xs ∙ items_all n xs (omega arith))

chunk_long : (n k i : ℕ) (s : List ℕ) → i < k → k * n ≤ length s
    → length (slice_index_or (first_chunks n k s) i []) ≡ n
chunk_long n zero i s h fits = absurd (omega arith)
chunk_long n (suc k) zero s h fits =
    let same : suc k * n ≡ n + k * n = omega arith in length-take-le n s (omega arith)
chunk_long n (suc k) (suc i) s h fits =
    let same : suc k * n ≡ n + k * n = omega arith in
    chunk_long n k i (drop n s) (omega arith) (omega (arith, length-drop n s))

pub items_of : (i : ℕ) (s : List ℕ) {fours : List (List ℕ)} → fours ≡ first_chunks 4 (length s / 4) s
    → i < length s / 4
    → (let four = slice_index_or fours i [] in
    slice_index_or four 0 0 ∷ slice_index_or four 1 0 ∷ slice_index_or four 2 0 ∷ slice_index_or four 3 0 ∷ [] ≡ four)
items_of i s {fours} e h =
    items_all 4 (slice_index_or fours i [])
    (ap (λ (xss : List (List ℕ)). length (slice_index_or xss i [])) e
    ∙ chunk_long 4 (length s / 4) i s h (omega arith))
