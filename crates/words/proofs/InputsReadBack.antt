-- An input's two characters name that input and no other; two characters that name an input, of either class, are its
-- characters.
-- Assumes nothing.
use Rattle.std.specs.List.{list_all}
use Rattle.std.proofs.Common.{ℕ, ◌≤◌, ◌≡◌, refl, true, [], ◌∷◌, arith, nat_le, leb-true, le-leb, Option, Some, None}
use Prim.Native.Char.{code}
use Rattle.text.specs.Words.{◌from◌to◌}
use Rattle.text.proofs.Choices.{if_by, both, both_left, both_right}
use Rattle.words.specs.Bytes.{is_alnum}
use Rattle.words.specs.Sources.{is_number_character, number_character}
use Rattle.words.specs.Inputs.{is_input_text, source_named, input_named, read_input, input_of, is_input, source_digit}
use Rattle.words.specs.Inputs.{input_text}
use Rattle.words.specs.Combinations.{whole_says}
use Rattle.words.specs.Laws.{input_codec}
use Rattle.words.specs.declared.input.Source.{Source}
use Rattle.words.specs.declared.input.Input.{Input}
use Rattle.words.proofs.Characters.{in_range}
use Rattle.words.proofs.NumbersReadBack.{is_number_character-number_character, number_back, number_low, number_high}
use Rattle.words.proofs.NumbersReadBack.{number_character-number_for, is_alnum-number_character}

-- a source's character is one of the six, a digit, and names it
pub record SourceTold (s : Source) : Type 0 where
  pub listed : (source_digit s from "1" to "6") ≡ true
  pub alnum : is_alnum (source_digit s) ≡ true
  pub back : source_named (source_digit s) ≡ s

pub source_told : (s : Source) → SourceTold s
unfolding source_named
source_told s = grind arith

-- its characters are a letter or digit each, whatever the number
pub input_alnum : (i : Input) → list_all is_alnum (input_text i) ≡ true
input_alnum i = both (source_told i.source).alnum (both (is_alnum-number_character i.number) refl)

module _ (i : Input) (legal : is_input i ≡ true) where
  low : 1 ≤ i.number
  low = leb-true 1 i.number (both_left (nat_le 1 i.number) _ legal)

  high : i.number ≤ 35
  high = leb-true i.number 35 (both_right (nat_le 1 i.number) _ legal)

  pub input_is_text : is_input_text 2 (source_digit i.source) (number_character i.number) ≡ true
  input_is_text = both (source_told i.source).listed (is_number_character-number_character i.number low high)

  pub input_read_back : read_input (source_digit i.source) (number_character i.number) ≡ Some i
  unfolding read_input
  input_read_back = grind (arith, number_back, low, input_is_text, source_told)

  pub input_of-input_text : input_of (input_text i) ≡ Some i
  unfolding input_of
  input_of-input_text = (whole_says input_codec).back i (input_text i) (legal, refl)

-- what names an input of one class names one of Class 2
pub named_widely : (k a b : ℕ) → is_input_text k a b ≡ true → is_input_text 2 a b ≡ true
named_widely k a b = grind arith

module _ (k a b : ℕ) (named : is_input_text k a b ≡ true) where
  source_is : (code "1" ≤ a) × (a ≤ code "6")
  source_is = in_range a "1" "6" (both_left (a from "1" to "6") (is_number_character b) (named_widely k a b named))

  pub number_is : is_number_character b ≡ true
  number_is = both_right (a from "1" to "6") (is_number_character b) (named_widely k a b named)

  source_digit-source_named : source_digit (source_named a) ≡ a
  unfolding source_named
  source_digit-source_named = grind arith

  pub is_input-input_named : is_input (input_named a b) ≡ true
  is_input-input_named = simp (le-leb, number_low, number_is, number_high)

  pub named_text : input_text (input_named a b) ≡ a ∷ b ∷ []
  named_text = (λ j. source_digit-source_named j ∷ number_character-number_for b number_is j ∷ [])

-- what is read of two characters, by whether they name an input
pub read_input_by : (P : Option Input → Type 0) (a b : ℕ) → (is_input_text 2 a b ≡ true → P (Some (input_named a b)))
    → P None
    → P (read_input a b)
unfolding read_input
read_input_by P a b named none = if_by P (is_input_text 2 a b) named (λ e. none)
