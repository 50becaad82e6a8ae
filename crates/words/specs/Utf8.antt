-- Well-formed UTF-8 by the table of RFC 3629, section 4 (RULES, Texts). The rule of a name cites std's `is_utf8`, which
-- goes by the RFC's section 3: the bytes of some scalar values, by its patterns of bits. That the two are the same is
-- proved (theorems.rt), so that it is enough to believe either.
--   utf8_rows        the table, a range for each byte of a character
--   IsRow row c      the character c is of the row: one byte in each of its ranges
--   IsCharacter c    the character c is of one of the rows: the section's UTF8-char
--   IsOctets s       s is a sequence of characters: the section's UTF8-octets
-- Assumes nothing.
use Rattle.std.specs.Prelude.{ℕ, ◌≤◌, ⊤, List, [], ◌∷◌, ◌++◌, Any}

infix 70 ◌upto◌
pub record Range : Type 0 where
  pub low : ℕ
  pub high : ℕ

abbrev pub ◌upto◌ : ℕ → ℕ → Range
low upto high = record { low = low; high = high }

-- the section's UTF8-tail
abbrev pub utf8_tail : Range
utf8_tail = 0x80 upto 0xBF

-- UTF8-1, UTF8-2, the four of UTF8-3, the three of UTF8-4
abbrev pub utf8_rows : List (List Range)
utf8_rows =
    (0x00 upto 0x7F ∷ [])
    ∷ (0xC2 upto 0xDF ∷ utf8_tail ∷ [])
    ∷ (0xE0 upto 0xE0 ∷ 0xA0 upto 0xBF ∷ utf8_tail ∷ [])
    ∷ (0xE1 upto 0xEC ∷ utf8_tail ∷ utf8_tail ∷ [])
    ∷ (0xED upto 0xED ∷ 0x80 upto 0x9F ∷ utf8_tail ∷ [])
    ∷ (0xEE upto 0xEF ∷ utf8_tail ∷ utf8_tail ∷ [])
    ∷ (0xF0 upto 0xF0 ∷ 0x90 upto 0xBF ∷ utf8_tail ∷ utf8_tail ∷ [])
    ∷ (0xF1 upto 0xF3 ∷ utf8_tail ∷ utf8_tail ∷ utf8_tail ∷ [])
    ∷ (0xF4 upto 0xF4 ∷ 0x80 upto 0x8F ∷ utf8_tail ∷ utf8_tail ∷ [])
    ∷ []

abbrev pub IsRow : List Range → List ℕ → Type 0
IsRow [] [] = ⊤
IsRow [] (b ∷ c) = ⊥
IsRow (r ∷ row) [] = ⊥
IsRow (r ∷ row) (b ∷ c) = (r.low ≤ b) × (b ≤ r.high) × IsRow row c

abbrev pub IsCharacter : List ℕ → Type 0
IsCharacter c = Any (λ row. IsRow row c) utf8_rows

pub data IsOctets : List ℕ → Type 0 where
  none : IsOctets []
  one_more : (c s : List ℕ) → IsCharacter c → IsOctets s → IsOctets (c ++ s)
