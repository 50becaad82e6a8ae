-- The table of RFC 3629, section 4, holds the encodings of the scalar values and nothing else.
-- Assumes nothing.
use Rattle.std.proofs.Common.{ℕ, zero, suc, ◌+◌, ◌-◌, ◌*◌, ◌≤◌, ◌<◌, ◌≡◌, refl, sym, subst, true, List, [], ◌∷◌}
use Rattle.std.proofs.Common.{length, slice_index_or, ◌⊎◌, inl, inr, ⊎_elim, arith}
use Rattle.std.specs.Prelude.{IsUtf8, ⊤, encode_utf8, encode_utf8_all}
use Rattle.std.proofs.Math.Utf8.{scalar, scalars, scalar_cases}
use Rattle.std.proofs.lemmas.Str.{IsUtf8-append}
use Rattle.std.proofs.str.Laws.{one, two, three, four}
use Rattle.std.proofs.str.Valid.{of_one, of_two, of_three, of_four}
use Rattle.text.proofs.Choices.{both_left, both_right}
use Rattle.text.proofs.Orders.{le_or_lt}
use Rattle.words.specs.Utf8.{Range, ◌upto◌, utf8_tail, utf8_rows, IsRow, IsCharacter, IsOctets, none, one_more}

-- ---- the bytes of a scalar value are of a row

module _ (n : ℕ) where
  -- row k holds the bytes c of n
  by_row : (k : ℕ) {row : List Range} {c : List ℕ} → encode_utf8 n ≡ c → k < length utf8_rows
      → slice_index_or utf8_rows k row ≡ row → IsRow row c → IsCharacter (encode_utf8 n)
  by_row k {row} same h is fits = (k, row, h, is, subst (IsRow row) (sym same) fits)

  abbrev Clear : Type 0
  Clear = (n < 0xD800) ⊎ ((0xE000 ≤ n) × (n < 0x110000))

  of_3_bytes : 0x800 ≤ n → n ≤ 0xFFFF → Clear → IsCharacter (encode_utf8 n)
  of_3_bytes low high clear =
      let bytes = three n low (omega arith) in
      ⊎_elim (λ h. by_row 2 bytes (omega arith) refl (search arith))
      (λ l. ⊎_elim (λ h. by_row 3 bytes (omega arith) refl (search arith))
      (λ l. ⊎_elim (λ h. by_row 4 bytes (omega arith) refl (search arith))
      (λ h. by_row 5 bytes (omega arith) refl (search arith)) clear) (le_or_lt n 0xCFFF)) (le_or_lt n 0xFFF)

  of_4_bytes : 0x10000 ≤ n → n < 0x110000 → IsCharacter (encode_utf8 n)
  of_4_bytes low high =
      let bytes = four n low in
      ⊎_elim (λ h. by_row 6 bytes (omega arith) refl (search arith))
      (λ l. ⊎_elim (λ h. by_row 7 bytes (omega arith) refl (search arith))
      (λ l. by_row 8 bytes (omega arith) refl (search arith)) (le_or_lt n 0xFFFFF)) (le_or_lt n 0x3FFFF)

  of_a_row : Clear → IsCharacter (encode_utf8 n)
  of_a_row clear =
      ⊎_elim (λ h. by_row 0 (one n (omega arith)) (omega arith) refl (search arith))
      (λ l. ⊎_elim (λ h. by_row 1 (two n l (omega arith)) (omega arith) refl (search arith))
      (λ l. ⊎_elim (λ h. of_3_bytes l h clear)
      (λ l. of_4_bytes l (⊎_elim (λ h. omega arith) (λ h. h.1) clear)) (le_or_lt n 0xFFFF)) (le_or_lt n 0x7FF))
      (le_or_lt n 0x7F)

pub IsOctets-encode_utf8_all : (ns : List ℕ) → scalars ns ≡ true → IsOctets (encode_utf8_all ns)
IsOctets-encode_utf8_all [] legal = none
IsOctets-encode_utf8_all (n ∷ ns) legal =
    one_more _ _ (of_a_row n (scalar_cases n (both_left (scalar n) _ legal)))
    (IsOctets-encode_utf8_all ns (both_right (scalar n) _ legal))

-- ---- and what is of a row is the bytes of a scalar value

abbrev Decodes : List Range → Type 0
Decodes row = (c : List ℕ) → IsRow row c → IsUtf8 c

abbrev Each : List (List Range) → Type 0
Each [] = ⊤
Each (row ∷ rows) = Decodes row × Each rows

decodes_1 : Decodes (0x00 upto 0x7F ∷ [])
decodes_1 (x ∷ []) h = of_one (x ∷ []) 0 (omega arith) (omega arith)
decodes_1 [] h = absurd h
decodes_1 (x ∷ y ∷ c) h = absurd h.2

decodes_2 : Decodes (0xC2 upto 0xDF ∷ utf8_tail ∷ [])
decodes_2 (x ∷ y ∷ []) h = of_two (x ∷ y ∷ []) 0 (omega arith) (search arith) (search arith)
decodes_2 [] h = absurd h
decodes_2 (x ∷ []) h = absurd h.2
decodes_2 (x ∷ y ∷ z ∷ c) h = absurd h.2.2

decodes_3 : (r q : Range) → ((x y : ℕ) → r.low ≤ x → x ≤ r.high → q.low ≤ y → y ≤ q.high
    → ((0xE0 ≤ x) × (x < 0xF0)) × ((0x80 ≤ y) × (y < 0xC0)) × (0x20 ≤ (x - 0xE0) * 64 + (y - 0x80))
    × (((x - 0xE0) * 64 + (y - 0x80) < 0x360) ⊎ (0x380 ≤ (x - 0xE0) * 64 + (y - 0x80))))
    → Decodes (r ∷ q ∷ utf8_tail ∷ [])
decodes_3 r q in_three (x ∷ y ∷ z ∷ []) h =
    let i = in_three x y h.0 h.1 h.2.0 h.2.1 in
    of_three (x ∷ y ∷ z ∷ []) 0 (omega arith) i.0 i.1 (search arith) (omega arith)
    (⊎_elim (λ a. inl (omega arith)) (λ a. inr (omega arith)) i.3)
decodes_3 r q in_three [] h = absurd h
decodes_3 r q in_three (x ∷ []) h = absurd h.2
decodes_3 r q in_three (x ∷ y ∷ []) h = absurd h.2.2
decodes_3 r q in_three (x ∷ y ∷ z ∷ w ∷ c) h = absurd h.2.2.2

decodes_4 : (r q : Range) → ((x y : ℕ) → r.low ≤ x → x ≤ r.high → q.low ≤ y → y ≤ q.high
    → (0xF0 ≤ x) × ((0x80 ≤ y) × (y < 0xC0))
    × (0x10 ≤ (x - 0xF0) * 64 + (y - 0x80)) × ((x - 0xF0) * 64 + (y - 0x80) < 0x110))
    → Decodes (r ∷ q ∷ utf8_tail ∷ utf8_tail ∷ [])
decodes_4 r q in_four (x ∷ y ∷ z ∷ w ∷ []) h =
    let i = in_four x y h.0 h.1 h.2.0 h.2.1 in
    of_four (x ∷ y ∷ z ∷ w ∷ []) 0 (omega arith) i.0 i.1 (search arith) (search arith) (i.2, i.3)
decodes_4 r q in_four [] h = absurd h
decodes_4 r q in_four (x ∷ []) h = absurd h.2
decodes_4 r q in_four (x ∷ y ∷ []) h = absurd h.2.2
decodes_4 r q in_four (x ∷ y ∷ z ∷ []) h = absurd h.2.2.2
decodes_4 r q in_four (x ∷ y ∷ z ∷ w ∷ v ∷ c) h = absurd h.2.2.2.2

each_decodes : Each utf8_rows
each_decodes = (
  decodes_1,
  (
    decodes_2,
    (
      decodes_3 _ _ (λ x y a b d e. (search arith, search arith, omega arith, inl (omega arith))),
      (
        decodes_3 _ _ (λ x y a b d e. (search arith, search arith, omega arith, inl (omega arith))),
        (
          decodes_3 _ _ (λ x y a b d e. (search arith, search arith, omega arith, inl (omega arith))),
          (
            decodes_3 _ _ (λ x y a b d e. (search arith, search arith, omega arith, inr (omega arith))),
            (
              decodes_4 _ _ (λ x y a b d e. search arith),
              (
                decodes_4 _ _ (λ x y a b d e. search arith),
                (
                  decodes_4 _ _ (λ x y a b d e. search arith),
                  tt,
                ),
              ),
            ),
          ),
        ),
      ),
    ),
  ),
)

decoded : (rows : List (List Range)) → Each rows → (k : ℕ) (row : List Range) → k < length rows
    → slice_index_or rows k row ≡ row → Decodes row
decoded [] each k row h is = absurd (omega arith)
decoded (r ∷ rows) each zero row h is = subst Decodes is each.0
decoded (r ∷ rows) each (suc k) row h is = decoded rows each.1 k row (omega arith) is

pub IsUtf8-IsOctets : (s : List ℕ) → IsOctets s → IsUtf8 s
IsUtf8-IsOctets _ none = ([], (refl, refl))
IsUtf8-IsOctets _ (one_more c s is more) = grind (arith, IsUtf8-append, each_decodes, IsUtf8-IsOctets s more)
