-- Reading a greeting, case by case: the open one, the ERRA line, the secured one, or none.
-- Assumes nothing.
use Rattle.std.proofs.Common.{arith, ℕ, ◌≡◌, refl, ◌∙◌, true, false, List, ◌++◌, length, append_assoc, codes}
use Rattle.std.specs.Prelude.{Option, None, Some}
use Rattle.text.specs.Scans.{is_same_by, itself}
use Rattle.text.proofs.Choices.{if_yes, if_no}
use Rattle.text.proofs.Scanning.{long_differs}
use Rattle.digest.specs.Hex.{hex_digits}
use Rattle.pjlink.specs.Forms.{erra_line, greeting_open, greeting_secured}
use Rattle.pjlink.specs.Greetings.{greets, random_in, read_greeting}
use Rattle.pjlink.specs.declared.greeting.TheConstants.{ERRA}
use Rattle.pjlink.specs.declared.greeting.Greeting.{Greeting}
use Rattle.pjlink.specs.declared.greeting.Greeting.TheVariants.{Open, Secured, Refused}

pub erra_spelt : ERRA ≡ erra_line
erra_spelt = refl

-- the three parts of the greeting with a random number, put one after the other
pub secured_put : (out : List ℕ) {one two three digits put : List ℕ} → one ≡ out ++ codes "PJLINK 1 " → put ≡ digits
    → two ≡ one ++ put → three ≡ two ++ codes "\r" → three ≡ out ++ greeting_secured digits
secured_put out e f g h = grind (arith, append_assoc)

module _ (l : List ℕ) where
  pub greeting_by : (P : Option Greeting → Type 0)
      → (is_same_by itself l greeting_open ≡ true → P (Some Open))
      → (is_same_by itself l erra_line ≡ true → P (Some Refused))
      → (greets l (random_in l) ≡ true → P (Some (Secured (random_in l))))
      → P None
      → P (read_greeting l)
  unfolding read_greeting
  greeting_by P opens erra secured none = grind arith

  pub greeting_open_lem : is_same_by itself l greeting_open ≡ true → read_greeting l ≡ Some Open
  unfolding read_greeting
  greeting_open_lem e = if_yes _ _ e

  module _ (closed : is_same_by itself l greeting_open ≡ false) where
    pub greeting_refused : is_same_by itself l erra_line ≡ true → read_greeting l ≡ Some Refused
    unfolding read_greeting
    greeting_refused e = if_no _ _ closed ∙ if_yes _ _ e

    module _ (line : is_same_by itself l erra_line ≡ false) where
      pub greeting_secured_lem : greets l (random_in l) ≡ true → read_greeting l ≡ Some (Secured (random_in l))
      unfolding read_greeting
      greeting_secured_lem e = if_no _ _ closed ∙ if_no _ _ line ∙ if_yes _ _ e

      pub greeting_none : greets l (random_in l) ≡ false → read_greeting l ≡ None
      unfolding read_greeting
      greeting_none e = if_no _ _ closed ∙ if_no _ _ line ∙ if_no _ _ e

      pub not_18 : (length l ≡ 18 → ⊥) → read_greeting l ≡ None
      not_18 n = greeting_none (long_differs itself l (greeting_secured (hex_digits 8 (random_in l))) n)
