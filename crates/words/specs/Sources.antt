-- The table of the types of an input (RULES, The legal record; PJLink 1.04, 4.3; RULES, Class 2: type 6 and numbers
-- with letters are of Class 2), and what two characters stand for by it. What reads and what writes characters has
-- definitions of its own (Inputs), which are proved to follow this table (proofs/SourcesFollowed); so are the codes of
-- the C face (`source_number` of codes/specs/Commands; `face_follows` of codes/proofs/CommandsCoded).
--   type_of s               the type of the source s, 1 to 6
--   is_same_input i j          i and j have the same type and the same number
--   character n             the character of the number n, which is below ten
--   is_number_character b   the character b numbers an input: 1 to 9, A to Z
--   number_for b            the number for which the character b stands: 1 to 9, and 10 to 35 for A to Z
--   number_character n      the character of the number n
--   input_for a b           the input for which the characters a b, of a type and a number, stand; or none
-- Assumes nothing.
use Rattle.std.specs.Prelude.{ℕ, ◌+◌, ◌-◌, ◌%◌, Bool, ◌&&◌, ◌||◌, List, [], ◌∷◌, if◌then◌else◌}
use Rattle.std.specs.Prelude.{Option, Some, None, ◌==◌, nat_le}
use Prim.Native.Char.{code}
use Rattle.text.specs.Words.{◌from◌to◌}
use Rattle.words.specs.declared.input.Source.{Source}
use Rattle.words.specs.declared.input.Source.TheVariants.{Rgb, Video, Digital, Storage, Network, Internal}
use Rattle.words.specs.declared.input.Input.{Input}

abbrev pub type_of : Source → ℕ
type_of Rgb = 1
type_of Video = 2
type_of Digital = 3
type_of Storage = 4
type_of Network = 5
type_of Internal = 6

abbrev pub sources : List Source
sources = Rgb ∷ Video ∷ Digital ∷ Storage ∷ Network ∷ Internal ∷ []

abbrev pub is_same_input : Input → Input → Bool
is_same_input i j = type_of i.source == type_of j.source && i.number == j.number

abbrev pub character : ℕ → ℕ
character n = code "0" + n

abbrev pub is_number_character : ℕ → Bool
is_number_character b = b from "1" to "9" || b from "A" to "Z"

unfoldable pub number_for : ℕ → ℕ
number_for b = if nat_le b (code "9") then b - code "0" else 10 + (b - code "A")

-- a number past 35 has no character: this gives it one of the letters
unfoldable pub number_character : ℕ → ℕ
number_character n = if nat_le n 9 then character n else code "A" + (n - 10) % 26

abbrev pub input_among : List Source → ℕ → ℕ → Option Input
input_among [] a b = None
input_among (s ∷ ss) a b =
    if a == character (type_of s) then Some (record { source = s; number = number_for b }) else input_among ss a b

unfoldable pub input_for : ℕ → ℕ → Option Input
input_for a b = if is_number_character b then input_among sources a b else None
