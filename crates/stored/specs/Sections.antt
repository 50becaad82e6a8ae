-- How a value stands in a stored form (RULES, Stored form): what is written of it, and how it is read, from left to
-- right, where a field is a value and the bytes that are left after it, or none where the bytes end before it does.
--   Field A              how an A is read
--   r giving f           what r reads, and then f of it
--   given x              x, of no bytes
--   byte, bytes n        one byte; so many bytes
--   number n             a number of so many bytes, the highest first
--   section count items  a section: its count, then what is counted
--   text_section s       that of a text, whose items are its bytes
--   section_of width     items of so many bytes each, after their count in one byte;    text    of one byte each
--   texts_bytes ts       texts, each after its count;    texts n    so many texts, one after the other
--   seconds_bytes xs     the seconds of each lamp, four bytes a lamp;    seconds_in n s    the first n of such in s
--   Format A             how an A is written, and how it is read
--   in_byte, in_two_bytes     a number in one byte, and in two
--   a_text, a_list       a text; a list of inputs, two characters each
--   lamps_seconds        the seconds of lamps
--   many_texts n         n texts
-- Assumes nothing.
use Rattle.std.specs.Prelude.{ℕ, zero, suc, ◌*◌, ◌/◌, List, [], ◌∷◌, length, take, drop}
use Rattle.std.specs.Prelude.{Option, Some, None, if◌then◌else◌, nat_lt}
use Rattle.text.specs.InTurn.{each_in_turn}
use Rattle.numbers.specs.HighestFirst.{highest_first, number_in}

abbrev pub Field : Type 0 → Type 0
Field A = List ℕ → Option (A × List ℕ)

abbrev pub field_and_then : {A B : Type 0} → (A → Field B) → Option (A × List ℕ) → Option (B × List ℕ)
field_and_then f None = None
field_and_then f (Some x) = f x.0 x.1

infixl 10 ◌giving◌
abbrev pub ◌giving◌ : {A B : Type 0} → Field A → (A → Field B) → Field B
(r giving f) s = field_and_then f (r s)

abbrev pub given : {A : Type 0} → A → Field A
given x s = Some (x, s)

unfoldable pub byte : Field ℕ
byte [] = None
byte (b ∷ s) = Some (b, s)

unfoldable pub bytes : ℕ → Field (List ℕ)
bytes n s = if nat_lt (length s) n then None else Some (take n s, drop n s)

unfoldable pub number : ℕ → Field ℕ
number n =
    bytes n giving λ s.
    given (number_in s)

abbrev pub section : ℕ → List ℕ → List ℕ
section count items = count ∷ items

abbrev pub text_section : List ℕ → List ℕ
text_section s = section (length s) s

unfoldable pub section_of : ℕ → Field (List ℕ)
section_of width =
    byte giving λ n.
    bytes (width * n)

abbrev pub text : Field (List ℕ)
text = section_of 1

unfoldable pub texts_bytes : List (List ℕ) → List ℕ
texts_bytes ts = each_in_turn text_section ts

unfoldable pub texts : ℕ → Field (List (List ℕ))
texts zero = given []
texts (suc n) =
    text giving λ t.
    texts n giving λ ts.
    given (t ∷ ts)

unfoldable pub seconds_bytes : List ℕ → List ℕ
seconds_bytes xs = each_in_turn (highest_first 4) xs

unfoldable pub seconds_in : ℕ → List ℕ → List ℕ
seconds_in zero s = []
seconds_in (suc n) s = number_in (take 4 s) ∷ seconds_in n (drop 4 s)

pub record Format (A : Type 0) : Type 0 where
  pub written : A → List ℕ
  pub read : Field A

abbrev pub in_byte : Format ℕ
in_byte = record { written = λ b. b ∷ []; read = byte }

abbrev pub in_two_bytes : Format ℕ
in_two_bytes = record { written = highest_first 2; read = number 2 }

abbrev pub a_text : Format (List ℕ)
a_text = record { written = text_section; read = text }

abbrev pub a_list : Format (List ℕ)
a_list = record { written = λ s. section (length s / 2) s; read = section_of 2 }

abbrev pub lamps_seconds : Format (List ℕ)
lamps_seconds = record {
  written = λ xs. section (length xs) (seconds_bytes xs);
  read =
      section_of 4 giving λ s.
      given (seconds_in (length s / 4) s);
}

abbrev pub many_texts : ℕ → Format (List (List ℕ))
many_texts n = record { written = texts_bytes; read = texts n }
