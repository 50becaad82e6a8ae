-- What a line of a log says (RULES, History of a board): the header of a file, a call, or what the record shows there.
--   LogEntry          the header of a file, with its number in the chain, the sum so far, and a start time or none; a
--                     call; or a stated line, with the count of lines since the header, the sum so far, and a text
--                     of power and seconds
--   entry_seen e      the same of an entry as the code has it;    time_seen t   of a start time
--   entry_text e      its line without LF, `LOG 2 1 0a1b2c3d 2026-11-27T05:45:09Z` or `S 12 0a1b2c3d power 1 lamps 60`;
--                     that of a call is the call's
--   entry_line e      the line
--   is_sayable_entry e        a line can say it
--   entry_in l        the entry that the line l says, without its LF
-- Assumes nothing.
use Rattle.std.specs.List.{list_all}
use Rattle.std.specs.Prelude.{ℕ, ◌+◌, ◌<◌, ◌^◌, Bool, true, ◌&&◌, List, [], ◌∷◌, ◌++◌, length, take, drop, codes}
use Rattle.std.specs.Prelude.{if◌then◌else◌, nat_le, Option, Some, None, option_map}
use Rattle.std.specs.Borrow.{Bor}
use Prim.Native.Char.{code}
use Rattle.text.specs.Words.{◌is◌, ◌from◌to◌}
use Rattle.text.specs.Scans.{index_of}
use Rattle.numbers.specs.Decimal.{digits}
use Rattle.digest.specs.Hex.{hex_digits, hex_value, is_hex_digit}
use Rattle.words.specs.Codec.{◌>>=◌}
use Rattle.history.specs.Calls.{LogCall, call_seen, is_sayable, IsTyped}
use Rattle.history.specs.Lines.{is_plain, call_text, decimal_in, number_most, call_in}
use Rattle.history.specs.declared.entry.Entry.{Entry}
use Rattle.history.specs.declared.entry.Entry.TheVariants.{Header as HeaderCase, Call as CallCase, Stated as StatedCase}

pub data LogEntry : Type 0 where
  header : (file sum : ℕ) (time : Option (List ℕ)) → LogEntry
  call : LogCall → LogEntry
  stated : (lines sum : ℕ) (shown : List ℕ) → LogEntry

abbrev pub time_seen : Option (Bor (List ℕ)) → Option (List ℕ)
time_seen t = option_map (λ b. b.now) t

abbrev pub entry_seen : Entry → LogEntry
entry_seen (HeaderCase h) = header h.file h.sum (time_seen h.time)
entry_seen (CallCase c) = call (call_seen c)
entry_seen (StatedCase s) = stated s.lines s.sum s.shown.now

abbrev pub time_most : ℕ
time_most = 35

abbrev pub shown_most : ℕ
shown_most = 128

abbrev pub is_visible : ℕ → Bool
is_visible b = b from "!" to "~"

unfoldable pub is_time : List ℕ → Bool
is_time t = nat_le 1 (length t) && nat_le (length t) time_most && list_all is_visible t

abbrev pub is_time_if_any : Option (List ℕ) → Bool
is_time_if_any None = true
is_time_if_any (Some t) = is_time t

abbrev pub is_sayable_entry : LogEntry → Bool
is_sayable_entry (header f s t) = nat_le 1 f && nat_le f number_most && is_time_if_any t
is_sayable_entry (call c) = is_sayable c
is_sayable_entry (stated n s shown) = is_plain shown && nat_le (length shown) shown_most

abbrev pub IsTypedEntry : LogEntry → Type 0
IsTypedEntry (header f s t) = s < 2 ^ 32
IsTypedEntry (call c) = IsTyped c
IsTypedEntry (stated n s shown) = (n < 2 ^ 32) × (s < 2 ^ 32)

abbrev pub time_text : Option (List ℕ) → List ℕ
time_text None = []
time_text (Some t) = codes " " ++ t

-- a number and a sum
abbrev pub summed_text : ℕ → ℕ → List ℕ
summed_text n s = digits n ++ codes " " ++ hex_digits 8 s

unfoldable pub entry_text : LogEntry → List ℕ
entry_text (header f s t) = codes "LOG 2 " ++ summed_text f s ++ time_text t
entry_text (call c) = call_text c
entry_text (stated n s shown) = codes "S " ++ summed_text n s ++ (codes " " ++ shown)

abbrev pub entry_line : LogEntry → List ℕ
entry_line e = entry_text e ++ codes "\n"

-- ---- and read

-- up to the first space, and past it
abbrev pub first_word : List ℕ → List ℕ
first_word s = take (index_of (code " ") s) s

abbrev pub past_word : List ℕ → List ℕ
past_word s = drop (index_of (code " ") s + 1) s

unfoldable pub sum_in : List ℕ → Option (ℕ × List ℕ)
sum_in s =
    if nat_le 8 (length s) && list_all is_hex_digit (take 8 s) then Some (hex_value (take 8 s), drop 8 s) else None

unfoldable pub summed_in : List ℕ → Option (ℕ × (ℕ × List ℕ))
summed_in s = decimal_in (first_word s) >>= λ n. sum_in (past_word s) >>= λ r. Some (n, r)

unfoldable pub header_of : ℕ → ℕ → List ℕ → Option LogEntry
header_of f s [] = if nat_le 1 f then Some (header f s None) else None
header_of f s (b ∷ t) = if nat_le 1 f && b is " " && is_time t then Some (header f s (Some t)) else None

unfoldable pub stated_of : ℕ → ℕ → List ℕ → Option LogEntry
stated_of n s [] = None
stated_of n s (b ∷ t) =
    if b is " " && is_plain t && nat_le (length t) shown_most then Some (stated n s t) else None

-- behind the letter
unfoldable pub header_in : List ℕ → Option LogEntry
header_in (o ∷ g ∷ b ∷ k ∷ c ∷ s) =
    if o is "O" && g is "G" && b is " " && k is "2" && c is " "
    then (summed_in s >>= λ r. header_of r.0 r.1.0 r.1.1)
    else None
header_in s = None

unfoldable pub stated_in : List ℕ → Option LogEntry
stated_in (b ∷ s) = if b is " " then (summed_in s >>= λ r. stated_of r.0 r.1.0 r.1.1) else None
stated_in s = None

unfoldable pub entry_in : List ℕ → Option LogEntry
entry_in [] = None
entry_in (k ∷ s) =
    if k is "L" then header_in s
    else if k is "S" then stated_in s
    else call_in (k ∷ s) >>= λ c. Some (call c)
