-- Vectors of UTF-8: the examples of RFC 3629, section 7, and the borders of its tables.
-- Assumes nothing.
use Rattle.std.specs.Char.{encode_utf8, IsScalar}
use Rattle.std.specs.List.{list_all}
use Rattle.std.specs.Str.{chars, is_utf8}
use Rattle.std.proofs.Common.{arith, ℕ, ◌≡◌, refl, true, not, List, [], ◌∷◌, map, encode_utf8_all, All}
use Rattle.words.specs.Utf8Worked.{rfc_points, rfc_octets, well_formed, ill_formed}

pub section_7 : map encode_utf8_all rfc_points ≡ rfc_octets
unfolding encode_utf8
section_7 = refl

pub taken : list_all is_utf8 well_formed ≡ true
unfolding chars encode_utf8 is_utf8
taken = refl

pub refused : list_all (λ (s : List ℕ). not (is_utf8 s)) ill_formed ≡ true
unfolding chars encode_utf8 is_utf8
refused = refl

-- U+D800, U+DFFF and U+110000
pub no_scalars : All (λ (n : ℕ). ¬ IsScalar n) (0xD800 ∷ 0xDFFF ∷ 0x110000 ∷ [])
no_scalars = grind arith

pub ruleset worked_utf8 = (section_7, taken, refused, no_scalars)
