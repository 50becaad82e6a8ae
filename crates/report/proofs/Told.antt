-- A line is its form filled, and the lines of the lamps are one after the other.
use Rattle.std.proofs.Common.{◌≡◌, ℕ, zero, suc, ◌+◌, Bool, false, List, [], ◌∷◌, ◌++◌, length, refl, sym, ap, ◌∙◌}
use Rattle.std.proofs.Common.{append_assoc, add-zero, zero-add, arith, slice_index_or, codes, if◌then◌else◌}
use Rattle.std.specs.List.{flat_map, range_with_len}
use Rattle.textio.specs.Forms.{form_filled}
use Rattle.textio.proofs.FormsFilled.{form_filled_none, form_filled_next}
use Rattle.numbers.specs.Decimal.{long_digits}
use Rattle.report.specs.LampLines.{stretch_line, stretch_lines}

joined : (a x b y c z n : List ℕ)
    → (((a ++ x) ++ (b ++ y)) ++ (c ++ z)) ++ n ≡ a ++ (x ++ (b ++ (y ++ (c ++ (z ++ n)))))
joined a x b y c z n = simp append_assoc refl

pub stretch_filled : (lamp from to : ℕ)
    → form_filled (codes "lamp # from # to #\n") (lamp ∷ from ∷ to ∷ []) ≡ stretch_line lamp from to
unfolding stretch_line
stretch_filled lamp from to = simp (form_filled_next, form_filled_none)
    (sym (joined (codes "lamp ") (long_digits lamp) (codes " from ") (long_digits from) (codes " to ")
    (long_digits to) (codes "\n")))

abbrev pub line_if : Bool → ℕ → ℕ → ℕ → List ℕ
line_if is_lit from to k = if is_lit then stretch_line (k + 1) from to else []

-- the marks from the place i on
lines_from : (lit all : List Bool) (i from to : ℕ) →
    ((k : ℕ) → slice_index_or all (i + k) false ≡ slice_index_or lit k false)
    → flat_map (λ k. line_if (slice_index_or all k false) from to k) (range_with_len i (length lit))
    ≡ stretch_lines (i + 1) lit from to
unfolding stretch_lines
lines_from [] all i from to same = refl
lines_from (m ∷ ms) all i from to same =
    let place : slice_index_or all i false ≡ m = ap (λ k. slice_index_or all k false) (sym (add-zero i)) ∙ same zero in
    let rest = lines_from ms all (i + 1) from to
    (λ k. let next : i + 1 + k ≡ i + suc k = omega arith in ap (λ j. slice_index_or all j false) next ∙ same (suc k)) in
    let more = flat_map (λ k. line_if (slice_index_or all k false) from to k) (range_with_len (i + 1) (length ms)) in
    ap (λ b. line_if b from to i ++ more) place ∙ ap (λ t. line_if m from to i ++ t) rest

pub stretches_each : (lit : List Bool) (from to : ℕ)
    → flat_map (λ k. line_if (slice_index_or lit k false) from to k) (range_with_len 0 (length lit))
    ≡ stretch_lines 1 lit from to
stretches_each lit from to = lines_from lit lit 0 from to (λ k. ap (λ j. slice_index_or lit j false) (zero-add k))
