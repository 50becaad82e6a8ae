-- The digits of a number are the only ones that stand for it and have no zero before them.
-- Assumes nothing.
use Rattle.std.specs.List.{list_all}
use Rattle.std.proofs.Common.{ℕ, ◌+◌, ◌*◌, ◌/◌, ◌^◌, ◌<◌, ◌≤◌, ◌≡◌, refl, sym, ap, ◌∙◌, true, List, [], ◌∷◌, ◌++◌}
use Rattle.std.proofs.Common.{arith, length, slice_index_or}
use Prim.Native.Char.{code}
use Rattle.text.proofs.Bases.{value_in-append}
use Rattle.text.proofs.Choices.{both, both_left, both_right}
use Rattle.text.specs.Bases.{value_in}
use Rattle.numbers.specs.Decimal.{last_digit, digits, is_digit, decimal_worth, decimal_value}
use Rattle.numbers.proofs.Digits.{digits_all}

pub record Shortest (s : List ℕ) : Type 0 where
  pub some : 1 ≤ length s
  pub figures : list_all is_digit s ≡ true
  pub first : 2 ≤ length s → slice_index_or s 0 0 ≡ code "0" → ⊥

-- a list by its last
data Ends (s : List ℕ) : Type 0 where
  ends : (t : List ℕ) (b : ℕ) → s ≡ t ++ (b ∷ []) → Ends s

by_last : (a : ℕ) (s : List ℕ) → Ends (a ∷ s)
by_last a [] = ends [] a refl
by_last a (b ∷ s) = elim (by_last b s) [ ends t c e ↦ ends (a ∷ t) c (ap (λ (l : List ℕ). a ∷ l) e) ]

all_but_last : (t : List ℕ) (b : ℕ) → list_all is_digit (t ++ (b ∷ [])) ≡ true
    → (list_all is_digit t ≡ true) × (is_digit b ≡ true)
all_but_last [] b h = (refl, both_left (is_digit b) true h)
all_but_last (a ∷ t) b h =
    let rest = all_but_last t b (both_right (is_digit a) (list_all is_digit (t ++ (b ∷ []))) h) in
    (both (both_left (is_digit a) (list_all is_digit (t ++ (b ∷ []))) h) rest.0, rest.1)

digit_bounds : (b : ℕ) → is_digit b ≡ true → (code "0" ≤ b) × (b ≤ code "9")
digit_bounds b h = (grind arith, grind arith)

value_grows : (v : ℕ) (s : List ℕ) → v ≤ value_in 10 decimal_worth v s
value_grows v [] = omega arith
value_grows v (b ∷ s) = omega (arith, value_grows (v * 10 + decimal_worth b) s)

abbrev Only : ℕ → List ℕ → Type 0
Only n l = (s : List ℕ) → Shortest s → decimal_value s ≡ n → l ≡ s

low : (n : ℕ) → n < 10 → Only n (last_digit n ∷ [])
low n h [] p e = absurd (omega (arith, p.some))
low n h (a ∷ []) p e =
    let d = digit_bounds a (both_left (is_digit a) true p.figures) in
    let same : last_digit n ≡ a = omega (arith, e, d.0, d.1) in
    ap (λ (b : ℕ). b ∷ []) same
low n h (a ∷ b ∷ s) p e =
    let d = digit_bounds a (both_left (is_digit a) (list_all is_digit (b ∷ s)) p.figures) in
    let other : a ≡ code "0" → ⊥ = p.first (omega arith) in
    let more = value_grows ((0 * 10 + decimal_worth a) * 10 + decimal_worth b) s in
    absurd (other (omega (arith, e, d.0, more)))

high : (n : ℕ) (l : List ℕ) → 10 ≤ n → Only (n / 10) l → Only n (l ++ (last_digit n ∷ []))
high n l h rest [] p e = absurd (omega (arith, p.some))
high n l h rest (a ∷ []) p e =
    let d = digit_bounds a (both_left (is_digit a) true p.figures) in
    absurd (omega (arith, e, d.0, d.1))
high n l h rest (a ∷ b ∷ s) p e =
    elim (by_last b s) [
      | ends t c split ↦
          let whole : a ∷ b ∷ s ≡ (a ∷ t) ++ (c ∷ []) = ap (λ (l : List ℕ). a ∷ l) split in
          let parts = all_but_last (a ∷ t) c (ap (list_all is_digit) (sym whole) ∙ p.figures) in
          let d = digit_bounds c parts.1 in
          let value : decimal_value (a ∷ t) * 10 + decimal_worth c ≡ n
          = sym (value_in-append 10 decimal_worth 0 (a ∷ t) (c ∷ [])) ∙ ap decimal_value (sym whole) ∙ e in
          let over : decimal_value (a ∷ t) ≡ n / 10 = omega (arith, value, d.0, d.1) in
          let last : last_digit n ≡ c = omega (arith, value, d.0, d.1) in
          let front : l ≡ a ∷ t
          = rest (a ∷ t) (record { some = omega arith; figures = parts.0; first = λ some. p.first (omega arith) })
          over in
          (λ i. front i ++ (last i ∷ [])) ∙ sym whole
    ]

pub digits_one_form : (s : List ℕ) → Shortest s → decimal_value s < 2 ^ 32 → digits (decimal_value s) ≡ s
digits_one_form s p h = digits_all Only low high (decimal_value s) h s p refl
