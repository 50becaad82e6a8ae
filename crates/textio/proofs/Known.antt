-- What is known of a source and a sink behind memory: what is taken of the bytes read ahead, and the front of a line
-- that is kept.
-- Assumes nothing.
use Rattle.std.proofs.Common.{slice_range, take-append-drop, drop-drop, ℕ, ◌+◌, ◌-◌, ◌≤◌, min, ◌≡◌, sym, ap, ◌∙◌, List}
use Rattle.std.proofs.Common.{◌++◌, append_assoc, arith, length, take, drop, length-take, length-take-le}
use Rattle.std.proofs.Math.Seq.{take-append-add}
use Rattle.std.proofs.lemmas.List.{take_min, drop-take, drop-append-le}
use Rattle.std.proofs.lemmas.Slice.{between_is}
use Rattle.std.specs.declared.option.Option.{Option}
use Rattle.std.specs.Io.KnownBytes.{Keeps, Consumes, prepend_known}

-- taken of what stands before a source's bytes
pub prepend_known_taken : (a : Option (List ℕ)) (old new front : List ℕ) → old ≡ front ++ new
    → Consumes (prepend_known old a) (prepend_known new a) front
prepend_known_taken a old new front h = grind (arith, append_assoc)

-- a range that begins later is what its front leaves
pub range_later : (xs : List ℕ) (start end n : ℕ) → n ≤ length (slice_range xs start end)
    → slice_range xs start end ≡ take n (slice_range xs start end) ++ slice_range xs (start + n) end
range_later xs start end n h =
    let k = end - (start + n) in
    let whole : n + k ≡ end - start = omega (arith, length-take (end - start) (drop start xs)) in
    sym (take-append-drop n (slice_range xs start end))
    ∙ ap (λ (l : List ℕ). take n (slice_range xs start end) ++ l)
    (ap (λ (m : ℕ). drop n (take m (drop start xs))) (sym whole) ∙ drop-take n k (drop start xs)
    ∙ ap (take k) (drop-drop n start xs))

-- what is appended to the front of a list that ends in a range is appended to the range
pub range_grown : (old new bs : List ℕ) (start end after : ℕ) → start ≤ end → end ≤ length old
    → take after new ≡ take end old ++ bs → slice_range new start after ≡ slice_range old start end ++ bs
range_grown old new bs start end after h k e = grind (arith, between_is, drop-append-le, length-take-le)

kept_front : (m : ℕ) (xs ys : List ℕ) → length xs ≤ m
    → xs ++ take (min (length ys) (m - length xs)) ys ≡ take m (xs ++ ys)
kept_front m xs ys h =
    let whole : m ≡ length xs + (m - length xs) = omega arith in
    let same : min (length ys) (m - length xs) ≡ min (m - length xs) (length ys) = omega arith in
    ap (λ (k : ℕ). xs ++ take k ys) same
    ∙ ap (λ (l : List ℕ). xs ++ l) (take_min (m - length xs) ys) ∙ sym (take-append-add xs ys (m - length xs))
    ∙ ap (λ (n : ℕ). take n (xs ++ ys)) (sym whole)

-- what is appended in memory is what there is room for
pub appended_front : (old new bytes : List ℕ) (at place : ℕ) → at ≤ length old → length new ≡ length old
    → place ≡ at + min (length bytes) (length old - at) → take place new ≡ take at old ++ take (place - at) bytes
    → take place new ≡ take (length new) (take at old ++ bytes)
appended_front old new bytes at place inside same e kept =
    let long = length-take-le at old inside in
    let count : place - at ≡ min (length bytes) (length new - length (take at old)) = omega (arith, long, same, e) in
    kept ∙ ap (λ (k : ℕ). take at old ++ take k bytes) count
    ∙ kept_front (length new) (take at old) bytes (omega (arith, long, same))

pub kept_then_consumed : (a b c : Option (List ℕ)) (bs : List ℕ) → Keeps a b → Consumes b c bs → Consumes a c bs
kept_then_consumed a b c bs h g = grind arith
