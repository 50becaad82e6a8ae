-- A line of the form is spelt by its parts: `%`, its class byte, the four bytes of its body, a space, its parameter.
-- Its class is 1, or for a set-up of Class 2 also 2.
-- Assumes nothing.
use Rattle.std.proofs.Common.{ℕ, ◌≤◌, ◌≡◌, Bool, true, ◌&&◌, List, ◌∷◌, ◌++◌, arith, length, nat_le, codes}
use Prim.Native.Char.{code}
use Rattle.text.specs.Words.{◌is◌}
use Rattle.text.proofs.Choices.{both_left, both_right}
use Rattle.words.specs.Bytes.{◌at◌, is_alnum, command_most}
use Rattle.pjlink.specs.Commands.{class_digit}
use Rattle.pjlink.specs.Forms.{takes_class, is_command_form, is_headed, head_body, command_parameter, line_class}

-- a class byte that a set-up takes, by which it is
pub taken_by : (P : Type 0) (k b : ℕ) → takes_class k b ≡ true → (b ≡ code "1" → P) → (k ≡ 2 → b ≡ code "2" → P) → P
taken_by P k b e one two = grind arith

module _ (k : ℕ) (l : List ℕ) (form : is_command_form k l ≡ true) where
  abbrev sized : Bool
  sized = nat_le 7 (length l) && nat_le (length l) command_most

  abbrev marked : Bool
  marked = l at 0 is "%"

  abbrev lettered : Bool
  lettered = marked && is_alnum (l at 2) && is_alnum (l at 3) && is_alnum (l at 4) && is_alnum (l at 5)

  headed : is_headed (code " ") l ≡ true
  unfolding is_command_form
  headed = grind (arith, both_left)

  pub form_takes : takes_class k (l at 1) ≡ true
  unfolding is_command_form
  form_takes = both_right (sized && is_headed (code " ") l) (takes_class k (l at 1)) form

  -- the class is one that the set-up takes
  pub line_class_taken : 1 ≤ k → line_class l ≤ k
  line_class_taken h = taken_by (line_class l ≤ k) k (l at 1) form_takes (λ b. omega arith) (λ e b. omega arith)

  pub class_byte : l at 1 ≡ class_digit (line_class l)
  class_byte = grind (arith, form_takes)

  marks : marked ≡ true
  marks = grind (arith, headed)

  pub form_spelt : l ≡ codes "%" ++ ((l at 1) ∷ head_body l) ++ codes " " ++ command_parameter l
  form_spelt = grind (arith, both_right, headed)
