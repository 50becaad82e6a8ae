-- The table of types is followed: the writer's two characters of an input stand for it, and the reader reads the input
-- for which two characters stand, and no other.
-- Assumes nothing.
use Rattle.std.proofs.lemmas.Grind.{common_steps}
use Rattle.std.proofs.Common.{ℕ, ◌≡◌, sym, ap, ◌∙◌, true, [], ◌∷◌, arith, Some, None}
use Rattle.text.proofs.Choices.{if_yes}
use Rattle.words.specs.Sources.{is_same_input, number_character, input_for}
use Rattle.words.specs.Inputs.{is_input_text, source_named, input_named, read_input, is_input, source_digit, input_text}
use Rattle.words.specs.declared.input.Input.{Input}
use Rattle.words.proofs.InputsReadBack.{input_read_back, read_input_by, named_widely, named_text}

-- whatever two characters stand for is what is read of them
module _ (a b : ℕ) where
  pub reader_follows : read_input a b ≡ input_for a b
  unfolding read_input input_for source_named
  reader_follows = grind (arith, common_steps)

  -- two characters that the set-up takes for an input stand for it
  pub named_stands : (k : ℕ) → is_input_text k a b ≡ true → input_for a b ≡ Some (input_named a b)
  unfolding read_input
  named_stands k e = sym reader_follows ∙ if_yes _ None (named_widely k a b e)

-- the writer's characters of an input stand for it
pub writer_follows : (i : Input) → is_input i ≡ true
    → input_for (source_digit i.source) (number_character i.number) ≡ Some i
writer_follows i e = sym (reader_follows _ _) ∙ input_read_back i e

-- and no others do
pub stands_only : (a b : ℕ) (i : Input) → input_for a b ≡ Some i → input_text i ≡ a ∷ b ∷ []
stands_only a b i e =
    read_input_by (λ m. m ≡ Some i → input_text i ≡ a ∷ b ∷ []) a b
    (λ named same. let one : input_named a b ≡ i = cc in ap input_text (sym one) ∙ named_text 2 a b named)
    (λ none. cc)
    (reader_follows a b ∙ e)

-- inputs of the same type and number are the same
pub same_input_is_one : (i j : Input) → is_same_input i j ≡ true → i ≡ j
same_input_is_one i j e = grind arith
