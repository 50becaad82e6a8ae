-- The line of a call, without its LF, and the call of such a line (RULES, History of a board).
--   figure n           the character of a number below ten
--   is_command_line bs the bytes are a line of a controller: printable ASCII, at least one, the last of them no
--                      space, and one CR behind; it is said as text, any other bytes in hex
--   call_text c        `O 2 0a1b2c3d`, `R 2 %1POWR 1`, `B 2 0d0aff`, `B 3`, `T 60`, `X 2`, `F 1`, `E 012000`, `M 2 0`
--   decimal_in s       the number that s is written for: its decimal digits, no zero before them
--   call_in l          the call that the line l says
-- Assumes nothing.
use Rattle.std.specs.List.{list_all}
use Rattle.std.specs.Prelude.{ℕ, ◌+◌, ◌-◌, ◌*◌, ◌%◌, Bool, not, ◌&&◌, ◌||◌, List, [], ◌∷◌, ◌++◌, length, take}
use Rattle.std.specs.Prelude.{codes, if◌then◌else◌, nat_le, ◌==◌, Option, Some, None}
use Prim.Native.Char.{Char, code}
use Rattle.text.specs.Words.{◌is◌, ◌from◌to◌}
use Rattle.text.specs.InTurn.{each_in_turn}
use Rattle.numbers.specs.Decimal.{digits, is_digit, decimal_value}
use Rattle.digest.specs.Hex.{hex_digits, hex_value, is_hex_digit}
use Rattle.words.specs.Bytes.{◌at◌}
use Rattle.words.specs.Codec.{whole_value, ◌>>=◌}
use Rattle.words.specs.ErrorDigits.{errors_text, errors_read}
use Rattle.history.specs.Calls.{LogCall, opens, receives, passes, closes, faults, reports, enables, received_most}

abbrev pub figure : ℕ → ℕ
figure n = code "0" + n

abbrev pub switch_figure : Bool → ℕ
switch_figure m = if m then code "1" else code "0"

abbrev pub is_printable : ℕ → Bool
is_printable b = b from " " to "~"

-- a text that can stand at the end of a line
unfoldable pub is_plain : List ℕ → Bool
is_plain s = nat_le 1 (length s) && not (s at (length s - 1) is " ") && list_all is_printable s

abbrev pub front : List ℕ → List ℕ
front bs = take (length bs - 1) bs

unfoldable pub is_command_line : List ℕ → Bool
is_command_line bs = nat_le 1 (length bs) && bs at (length bs - 1) is "\r" && is_plain (front bs)

abbrev pub hex_text : List ℕ → List ℕ
hex_text bs = each_in_turn (hex_digits 2) bs

-- a letter and a place, alone or with something behind it
abbrev pub place_head : ℕ → ℕ → List ℕ
place_head c p = c ∷ code " " ∷ figure p ∷ []

abbrev pub placed_text : Char → ℕ → List ℕ → List ℕ
placed_text c p s = code c ∷ code " " ∷ figure p ∷ code " " ∷ s

abbrev pub hex_placed : ℕ → List ℕ → List ℕ
hex_placed p [] = place_head (code "B") p
hex_placed p (b ∷ bs) = placed_text "B" p (hex_text (b ∷ bs))

unfoldable pub bytes_text : ℕ → List ℕ → List ℕ
bytes_text p bs = if is_command_line bs then placed_text "R" p (front bs) else hex_placed p bs

unfoldable pub call_text : LogCall → List ℕ
call_text (opens p r) = placed_text "O" p (hex_digits 8 r)
call_text (receives p bs) = bytes_text p bs
call_text (passes n) = code "T" ∷ code " " ∷ digits n
call_text (closes p) = place_head (code "X") p
call_text (faults m) = code "F" ∷ code " " ∷ switch_figure m ∷ []
call_text (reports ds) = code "E" ∷ code " " ∷ errors_text ds
call_text (enables k m) = placed_text "M" (k + 1) (switch_figure m ∷ [])

-- ---- and read

abbrev pub number_most : ℕ
number_most = 4294967295

abbrev pub is_shortest : List ℕ → Bool
is_shortest s = length s == 1 || not (s at 0 is "0")

unfoldable pub decimal_in : List ℕ → Option ℕ
decimal_in s =
    if nat_le 1 (length s) && nat_le (length s) 10 && is_shortest s && list_all is_digit s
    && nat_le (decimal_value s) number_most
    then Some (decimal_value s)
    else None

unfoldable pub opening_in : ℕ → List ℕ → Option LogCall
opening_in p s = if length s == 8 && list_all is_hex_digit s then Some (opens p (hex_value s)) else None

unfoldable pub command_in : ℕ → List ℕ → Option LogCall
command_in p s =
    if nat_le (length s + 1) received_most && is_plain s then Some (receives p (s ++ codes "\r")) else None

-- two digits a byte; an odd one at the end counts as none
unfoldable pub hex_bytes : List ℕ → List ℕ
hex_bytes [] = []
hex_bytes (a ∷ []) = []
hex_bytes (a ∷ b ∷ s) = hex_value (a ∷ b ∷ []) ∷ hex_bytes s

-- what is said as text is not said in hex, and no bytes are said without a space behind the place
unfoldable pub hex_in : ℕ → List ℕ → Option LogCall
hex_in p s =
    if nat_le 2 (length s) && nat_le (length s) (2 * received_most) && length s % 2 == 0 && list_all is_hex_digit s
    && not (is_command_line (hex_bytes s))
    then Some (receives p (hex_bytes s))
    else None

unfoldable pub passing_in : List ℕ → Option LogCall
passing_in s = decimal_in s >>= λ n. Some (passes n)

unfoldable pub errors_in : List ℕ → Option LogCall
errors_in s = whole_value errors_read s >>= λ ds. Some (reports ds)

-- at a place, by the letter
unfoldable pub call_at : ℕ → ℕ → List ℕ → Option LogCall
call_at k p s =
    if k is "O" then opening_in p s
    else if k is "R" then command_in p s
    else if k is "B" then hex_in p s
    else None

unfoldable pub call_alone : ℕ → ℕ → Option LogCall
call_alone k p =
    if k is "X" then Some (closes p)
    else if k is "B" then Some (receives p [])
    else None

unfoldable pub placed_in : ℕ → List ℕ → Option LogCall
placed_in k (p ∷ []) = if p from "0" to "3" then call_alone k (p - code "0") else None
placed_in k (p ∷ b ∷ s) = if p from "0" to "3" && b is " " then call_at k (p - code "0") s else None
placed_in k s = None

unfoldable pub fault_in : List ℕ → Option LogCall
fault_in (m ∷ []) = if m from "0" to "1" then Some (faults (m is "1")) else None
fault_in s = None

unfoldable pub lamp_in : List ℕ → Option LogCall
lamp_in (k ∷ b ∷ m ∷ []) =
    if k from "1" to "8" && b is " " && m from "0" to "1" then Some (enables (k - code "1") (m is "1")) else None
lamp_in s = None

-- by its letter
unfoldable pub kind_in : ℕ → List ℕ → Option LogCall
kind_in k s =
    if k is "T" then passing_in s
    else if k is "F" then fault_in s
    else if k is "E" then errors_in s
    else if k is "M" then lamp_in s
    else placed_in k s

unfoldable pub call_in : List ℕ → Option LogCall
call_in (k ∷ b ∷ s) = if b is " " then kind_in k s else None
call_in s = None
