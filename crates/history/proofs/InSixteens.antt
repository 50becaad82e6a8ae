-- Whether the bytes of a vector are printable: what is left of each above a space is compared, all at once.
--   less a b    b taken from a byte a;    below a b    the byte that a comparison gives
-- Assumes nothing.
use Rattle.std.proofs.Common.{ℕ, ◌+◌, ◌-◌, ◌*◌, ◌%◌, ◌^◌, ◌<◌, ◌≤◌, ◌≡◌, arith, refl, sym, ap, ◌∙◌}
use Rattle.std.proofs.Common.{Bool, true, false, not, cond, ◌&&◌, eqb, ltb, List, [], ◌∷◌, ◌++◌, map, length, replicate}
use Rattle.std.proofs.Common.{w8, Fits, take, drop}
use Rattle.std.proofs.lemmas.List.{take-append-drop, drop-drop}
use Rattle.std.proofs.Math.Seq.{take-add}
use Rattle.lent.proofs.InChunks.{take_chunk}
use Rattle.std.proofs.lemmas.Bool.Decides.{nat_tests}
use Rattle.std.proofs.lemmas.List.{length-map}
use Rattle.std.proofs.lemmas.Simd.{tops_compared, zip2_splat, zip2_splat_left, mask_l-mod}
use Rattle.std.specs.List.{list_all}
use lib.Lanes.{zip2, mask_l, top, Each1}
use Rattle.history.specs.Lines.{is_printable}

abbrev pub less : ℕ → ℕ → ℕ
less a b = (a + (2 ^ 8 - b)) % 2 ^ 8

abbrev pub below : ℕ → ℕ → ℕ
below a b = cond (ltb a b) 255 0

unprintable : (x : ℕ) → x < 256 → is_printable x ≡ not (ltb 94 (less x 32))
unprintable x h = grind (arith, nat_tests)

one_more : (t : Bool) (m : ℕ) → eqb (cond t 1 0 + 2 * m) 0 ≡ (not t && eqb m 0)
one_more true m = grind (arith, nat_tests)
one_more false m = grind (arith, nat_tests)

none_above : (xs : List ℕ) → Each1 (Fits w8) xs
    → eqb (mask_l (map (ltb 94) (map (λ x. less x 32) xs))) 0 ≡ list_all is_printable xs
none_above [] bytes = refl
none_above (x ∷ xs) bytes =
    one_more (ltb 94 (less x 32)) (mask_l (map (ltb 94) (map (λ x. less x 32) xs)))
    ∙ (λ i. sym (unprintable x bytes.0.fits) i && none_above xs bytes.1 i)

pub printable_by_mask : (n : ℕ) (xs : List ℕ) → (length xs ≡ n) × Each1 (Fits w8) xs → n ≤ 64
    → eqb (mask_l (map (top 7) (zip2 below (replicate n 94) (zip2 less xs (replicate n 32)))) % 2 ^ 64) 0
    ≡ list_all is_printable xs
printable_by_mask n xs bytes few =
    let long = bytes.0 in
    let past : List ℕ = map (λ x. less x 32) xs in
    let moved : zip2 less xs (replicate n 32) ≡ past = zip2_splat less xs n 32 long in
    let long_past : length past ≡ n = length-map xs (λ x. less x 32) ∙ long in
    let ms : List Bool = map (ltb 94) past in
    let long_ms : length ms ≡ n = length-map past (ltb 94) ∙ long_past in
    let masked : map (top 7) (zip2 below (replicate n 94) past) ≡ ms =
    tops_compared w8 ltb (replicate n 94) past ∙ zip2_splat_left ltb 94 n past long_past in
    ap (λ (l : List ℕ). eqb (mask_l (map (top 7) (zip2 below (replicate n 94) l)) % 2 ^ 64) 0) moved
    ∙ ap (λ (l : List Bool). eqb (mask_l l % 2 ^ 64) 0) masked
    ∙ ap (λ (m : ℕ). eqb m 0) (mask_l-mod ms 64 (omega arith))
    ∙ none_above xs bytes.1

-- ---- chunk by chunk

all_of_both : (f : ℕ → Bool) (xs ys : List ℕ) → list_all f (xs ++ ys) ≡ (list_all f xs && list_all f ys)
all_of_both f [] ys = refl
all_of_both f (x ∷ xs) ys = and_both (f x) _ _ _ (all_of_both f xs ys)
  where
    and_both : (t a b c : Bool) → a ≡ (b && c) → (t && a) ≡ (t && b && c)
    and_both true a b c e = e
    and_both false a b c e = refl

turned : (a b : Bool) → (a && b) ≡ (b && a)
turned true true = refl
turned true false = refl
turned false true = refl
turned false false = refl

-- one chunk more, which is tested first
pub all_chunk : (f : ℕ → Bool) (n i : ℕ) (s : List ℕ) {all one : Bool} → all ≡ list_all f (take (i * n) s)
    → one ≡ list_all f (take n (drop (i * n) s))
    → (one && all) ≡ list_all f (take ((i + 1) * n) s)
all_chunk f n i s {all} {one} e o =
    turned one all ∙ (λ j. e j && o j)
    ∙ sym (all_of_both f (take (i * n) s) (take n (drop (i * n) s)))
    ∙ ap (list_all f) (sym (take_chunk n i s))

-- a front, and what begins in it or at its end
pub all_over_itself : (f : ℕ → Bool) (j k : ℕ) (s : List ℕ) {front back : Bool} → j ≤ k
    → front ≡ list_all f (take k s) → back ≡ list_all f (drop j s)
    → (front && back) ≡ list_all f s
all_over_itself f j k s h e o =
    let mid : List ℕ = take (k - j) (drop j s) in
    let whole : j + (k - j) ≡ k = omega arith in
    let first : list_all f (take k s) ≡ (list_all f (take j s) && list_all f mid) =
    ap (list_all f) (ap (λ (n : ℕ). take n s) (sym whole) ∙ take-add j (k - j) s) ∙ all_of_both f (take j s) mid in
    let last : list_all f (drop j s) ≡ (list_all f mid && list_all f (drop k s)) =
    ap (list_all f) (sym (take-append-drop (k - j) (drop j s)))
    ∙ all_of_both f mid (drop (k - j) (drop j s))
    ∙ ap (λ (t : List ℕ). list_all f mid && list_all f t) (drop-drop (k - j) j s ∙ ap (λ (n : ℕ). drop n s) whole) in
    (λ i. (e ∙ first) i && (o ∙ last) i)
    ∙ shared (list_all f (take j s)) (list_all f mid) (list_all f (drop k s))
    ∙ ap (λ (b : Bool). list_all f (take j s) && b) (sym last)
    ∙ sym (all_of_both f (take j s) (drop j s))
    ∙ ap (list_all f) (take-append-drop j s)
  where
    shared : (a b c : Bool) → ((a && b) && (b && c)) ≡ (a && (b && c))
    shared true true c = refl
    shared true false c = refl
    shared false b c = refl
