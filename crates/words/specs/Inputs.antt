-- Inputs as two characters, read and written (RULES, The legal record; PJLink 1.04, 4.3; RULES, Class 2). The table of
-- the types is in Sources, and these definitions are proved to follow it (proofs/SourcesFollowed).
--   is_input_text k a b   the characters a b name an input of Class k: of Class 1 a type 1 to 5 and a number 1 to 9, so
--                         11 and 59 do, and 10, 20 and 61 do not; of Class 2 also the type 6 and a number A to Z
--   input_named a b       the input that the characters a b name
--   read_input a b        the input of either class that a b name, or none; which inputs are listed, the set-up decides
--   is_input i            i is an input that two characters can name
--   input_text i          the two characters of i
--   input_read s          the input at the front of s
--   input_of w            the input that all of the word w names
-- Assumes nothing.
use Rattle.std.specs.Prelude.{ℕ, ◌+◌, ◌%◌, Bool, ◌&&◌, List, [], ◌∷◌, if◌then◌else◌, Option, Some, None, nat_le, ◌==◌}
use Prim.Native.Char.{code}
use Rattle.text.specs.Words.{◌is◌, ◌from◌to◌}
use Rattle.words.specs.Codec.{whole_value, ◌>>=◌}
use Rattle.words.specs.Sources.{is_number_character, number_for, number_character}
use Rattle.words.specs.declared.input.Source.{Source}
use Rattle.words.specs.declared.input.Source.TheVariants.{Rgb, Video, Digital, Storage, Network, Internal}
use Rattle.words.specs.declared.input.Input.{Input}

abbrev pub is_input_text : ℕ → ℕ → ℕ → Bool
is_input_text k a b =
    if k == 1 then a from "1" to "5" && b from "1" to "9" else a from "1" to "6" && is_number_character b

unfoldable pub source_named : ℕ → Source
source_named a =
    if a is "1" then Rgb
    else if a is "2" then Video
    else if a is "3" then Digital
    else if a is "4" then Storage
    else if a is "5" then Network
    else Internal

abbrev pub input_named : ℕ → ℕ → Input
input_named a b = record { source = source_named a; number = number_for b }

unfoldable pub read_input : ℕ → ℕ → Option Input
read_input a b = if is_input_text 2 a b then Some (input_named a b) else None

abbrev pub is_input : Input → Bool
is_input i = nat_le 1 i.number && nat_le i.number 35

abbrev pub source_digit : Source → ℕ
source_digit Rgb = code "1"
source_digit Video = code "2"
source_digit Digital = code "3"
source_digit Storage = code "4"
source_digit Network = code "5"
source_digit Internal = code "6"

abbrev pub number_digit : ℕ → ℕ
number_digit n = code "0" + n % 10

abbrev pub input_text : Input → List ℕ
input_text i = source_digit i.source ∷ number_character i.number ∷ []

abbrev pub input_read : List ℕ → Option (Input × List ℕ)
input_read (a ∷ b ∷ s) = read_input a b >>= λ i. Some (i, s)
input_read s = None

unfoldable pub input_of : List ℕ → Option Input
input_of w = whole_value input_read w
