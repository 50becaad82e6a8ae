-- The two greetings and the ERRA line, and reading them: each with its CR and nothing more (RULES, Connection and
-- Controller).
--   greeting_line g     the line of the greeting g
--   random_in l         the number that the eight digits after `PJLINK 1 ` are
--   greets l r          the line l is the greeting with the random number r, in its eight digits
--   read_greeting l     what the line l is, if it is one of them
--   Exactly l g         the line l is the line of g; if there is no g, it is none of the three
--   greeting_number g   what the reader's call gives: 0 for a greeting or the ERRA line, else 10
-- Assumes nothing.
use Rattle.std.specs.Prelude.{ℕ, ◌^◌, ◌<◌, ◌≡◌, Bool, List, take, drop, if◌then◌else◌, Option, None, Some}
use Rattle.text.specs.Scans.{is_same_by, itself}
use Rattle.digest.specs.Hex.{hex_digits, hex_value}
use Rattle.pjlink.specs.Forms.{erra_line, greeting_open, greeting_secured}
use Rattle.pjlink.specs.declared.greeting.Greeting.{Greeting}
use Rattle.pjlink.specs.declared.greeting.Greeting.TheVariants.{Open, Secured, Refused}

-- the eight digits after `PJLINK 1 `
abbrev pub random_in : List ℕ → ℕ
random_in l = hex_value (take 8 (drop 9 l))

abbrev pub greeting_line : Greeting → List ℕ
greeting_line Open = greeting_open
greeting_line (Secured r) = greeting_secured (hex_digits 8 r)
greeting_line Refused = erra_line

abbrev pub greets : List ℕ → ℕ → Bool
greets l r = is_same_by itself l (greeting_line (Secured r))

-- the digits of the number read are compared with those of the line, so that no other digits are taken for it
unfoldable pub read_greeting : List ℕ → Option Greeting
read_greeting l =
    if is_same_by itself l (greeting_line Open) then Some Open
    else if is_same_by itself l (greeting_line Refused) then Some Refused
    else if greets l (random_in l) then Some (Secured (random_in l))
    else None

abbrev pub Exactly : List ℕ → Option Greeting → Type 0
Exactly l (Some Open) = l ≡ greeting_open
Exactly l (Some (Secured r)) = (r < 2 ^ 32) × (l ≡ greeting_secured (hex_digits 8 r))
Exactly l (Some Refused) = l ≡ erra_line
Exactly l None = (l ≡ greeting_open → ⊥) × ((l ≡ erra_line → ⊥)
    × ((r : ℕ) → r < 2 ^ 32 → l ≡ greeting_secured (hex_digits 8 r) → ⊥))

abbrev pub greeting_number : Option Greeting → ℕ
greeting_number None = 10
greeting_number (Some g) = 0
