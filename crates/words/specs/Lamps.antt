-- A lamp: its hours, a space, 1 if it is lit, else 0 (RULES, Commands; PJLink 1.04, 4.8). It has more than one writing
-- (RULES, Controller): other makers pad the hours with zeros, to five digits at most.
--   is_lamp_hours l      the hours of l are some that five digits can write
--   lamp_text l          the bytes that our own side writes for the lamp l
--   WritesLampHours l t  the bytes t are a writing of the lamp l: its hours in one to five digits, a space, 1 if lit,
--                        else 0
--   lamp_read s          the lamp at the front of s
-- Assumes nothing.
use Rattle.std.specs.Prelude.{ℕ, ◌≡◌, Bool, List, [], ◌∷◌, ◌++◌, Option}
use Prim.Native.Char.{code}
use Rattle.numbers.specs.Decimal.{digits, WritesNumber}
use Rattle.words.specs.Codec.{pair_of, preceded_by}
use Rattle.words.specs.Numerals.{is_numeral, number_read}
use Rattle.words.specs.Powers.{switch_code, switch_read}
use Rattle.words.specs.declared.lamp.LampHours.{LampHours}

abbrev pub is_lamp_hours : LampHours → Bool
is_lamp_hours l = is_numeral l.hours

abbrev pub lamp_text : LampHours → List ℕ
lamp_text l = digits l.hours ++ code " " ∷ switch_code l.lit ∷ []

pub record WritesLampHours (l : LampHours) (t : List ℕ) : Type 0 where
  pub word : List ℕ
  pub hours : WritesNumber l.hours word
  pub text : t ≡ word ++ code " " ∷ switch_code l.lit ∷ []

abbrev pub lamp_hours : ℕ → Bool → LampHours
lamp_hours hours lit = record { hours = hours; lit = lit }

abbrev pub lamp_read : List ℕ → Option (LampHours × List ℕ)
lamp_read s = pair_of lamp_hours number_read (preceded_by " " switch_read) s
