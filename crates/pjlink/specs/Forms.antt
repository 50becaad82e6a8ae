-- The forms of lines (PJLink 1.04, 2.1, 2.2, 2.5 and 5.1; RULES, Connection, Commands and Controller; RULES, Class 2).
--   is_headed m l             l starts with `%`, a byte for its class, four letters or digits and the separator m
--   takes_class k b           a set-up of Class k takes a line with the class byte b: `1`, of Class 2 also `2`
--   is_command_form k l       a line as received, without its CR, that a set-up of Class k takes: headed by a space,
--                             then 0 to 128 bytes
--   line_class l              the class of the line, by its class byte
--   is_reply_form k l         a reply of Class k with its CR: headed by `=`, then 0 to 128 bytes with no CR, one CR at
--                             the end
--   head_body l               the four body bytes of a line or a reply
--   command_parameter l       what follows the separator of a line; reply_parameter l: of a reply, up to its CR
--   IsCommandOf k l j s p     the line l of the form has the class j, the body s and the parameter p
--   IsReplyOf k l s p         the reply l of the form has the body s and the parameter p
--   IsLetters s               the body s is four letters or digits
--   reply_line h s p          the reply with the class byte h, the body s and the parameter p
--   greeting_open             the greeting of a projector without security
--   greeting_secured digits   the greeting with its random number's eight digits
--   erra_line                 the reply to a first line without the matching digest
-- Assumes nothing.
use Rattle.std.specs.Prelude.{ℕ, ◌-◌, ◌≡◌, true, Bool, ◌&&◌, ◌||◌, List, [], ◌∷◌, ◌++◌, length, take, drop, nat_le}
use Rattle.std.specs.Prelude.{◌==◌, codes}
use Rattle.std.specs.List.{list_all}
use Prim.Native.Char.{code}
use Rattle.text.specs.Words.{◌is◌}
use Rattle.words.specs.Bytes.{◌at◌, is_alnum, is_cr_free, command_most}
use Rattle.pjlink.specs.Commands.{class_digit}

abbrev pub head_body : List ℕ → List ℕ
head_body l = (l at 2) ∷ (l at 3) ∷ (l at 4) ∷ (l at 5) ∷ []

abbrev pub is_headed_by : ℕ → ℕ → List ℕ → ℕ → Bool
is_headed_by m first s last =
    first is "%"
    && is_alnum (s at 0) && is_alnum (s at 1) && is_alnum (s at 2) && is_alnum (s at 3)
    && last == m

abbrev pub is_headed : ℕ → List ℕ → Bool
is_headed m l = is_headed_by m (l at 0) (head_body l) (l at 6)

abbrev pub takes_class : ℕ → ℕ → Bool
takes_class k b = b is "1" || k == 2 && b is "2"

unfoldable pub is_command_form : ℕ → List ℕ → Bool
is_command_form k l =
    nat_le 7 (length l) && nat_le (length l) command_most && is_headed (code " ") l && takes_class k (l at 1)

abbrev pub class_of_byte : ℕ → ℕ
class_of_byte h = h - code "0"

abbrev pub line_class : List ℕ → ℕ
line_class l = class_of_byte (l at 1)

abbrev pub command_parameter : List ℕ → List ℕ
command_parameter l = drop 7 l

abbrev pub reply_most : ℕ
reply_most = 136

abbrev pub reply_parameter : List ℕ → List ℕ
reply_parameter l = take (length l - 8) (drop 7 l)

unfoldable pub is_reply_form : ℕ → List ℕ → Bool
is_reply_form k l =
    nat_le 8 (length l) && nat_le (length l) reply_most && is_headed (code "=") l && (l at 1) == class_digit k
    && l at (length l - 1) is "\r" && is_cr_free (reply_parameter l)

-- the parts of a line of the form
pub record IsCommandOf (k : ℕ) (l : List ℕ) (j : ℕ) (s p : List ℕ) : Type 0 where
  pub form : is_command_form k l ≡ true
  pub class : l at 1 ≡ class_digit j
  pub body : s ≡ head_body l
  pub parameter : p ≡ command_parameter l

pub record IsReplyOf (k : ℕ) (l s p : List ℕ) : Type 0 where
  pub form : is_reply_form k l ≡ true
  pub body : s ≡ head_body l
  pub parameter : p ≡ reply_parameter l

pub record IsLetters (s : List ℕ) : Type 0 where
  pub four : length s ≡ 4
  pub each : list_all is_alnum s ≡ true

abbrev pub reply_line : ℕ → List ℕ → List ℕ → List ℕ
reply_line h s p = codes "%" ++ (h ∷ s) ++ codes "=" ++ p ++ codes "\r"

abbrev pub greeting_open : List ℕ
greeting_open = codes "PJLINK 0\r"

abbrev pub greeting_secured : List ℕ → List ℕ
greeting_secured digits = codes "PJLINK 1 " ++ digits ++ codes "\r"

abbrev pub erra_line : List ℕ
erra_line = codes "PJLINK ERRA\r"
