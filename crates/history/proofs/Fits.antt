-- What a line takes.
-- Assumes nothing.
use Rattle.std.specs.List.{list_all}
use Rattle.std.proofs.Common.{ℕ, ◌*◌, ◌-◌, ◌≤◌, ◌<◌, ◌≡◌, true, ◌&&◌, List, [], ◌∷◌, ◌++◌, arith, length}
use Rattle.std.proofs.Common.{nat_le}
use Rattle.std.proofs.Common.{Option, Some, None, leb-true, eqb-true, codes, length-append, length-take-le, ◌==◌}
use Rattle.std.proofs.Common.{sym}
use Rattle.std.proofs.lemmas.List.{length-map}
use Rattle.text.proofs.Choices.{if_all, both_left, both_right}
use Rattle.text.proofs.InTurn.{length-each_in_turn}
use Rattle.crc32.specs.Crc.{crc32_on}
use Rattle.crc32.proofs.GoesOn.{crc32_on-append}
use Rattle.numbers.specs.Decimal.{digits}
use Rattle.numbers.proofs.Digits.{digits_at_most_10}
use Rattle.digest.specs.Hex.{hex_digits, hex_value}
use Rattle.digest.proofs.Laws.{length-hex_digits, hex_value_below}
use Rattle.words.specs.ErrorDigits.{is_error_digit}
use Rattle.words.specs.Inputs.{number_digit}
use Rattle.history.specs.Calls.{LogCall, opens, receives, passes, closes, faults, reports, enables, is_sayable}
use Rattle.history.specs.Calls.{received_most, is_place_number}
use Rattle.history.specs.Entries.{LogEntry, header, call, stated, is_sayable_entry, is_time, is_time_if_any, time_text}
use Rattle.history.specs.Entries.{summed_text}
use Rattle.history.specs.Entries.{shown_most, entry_text}
use Rattle.history.specs.Lines.{is_plain, number_most, is_command_line, front, bytes_text, hex_placed, hex_text}
use Rattle.history.specs.Lines.{call_text}

pub command_some : (bs : List ℕ) → is_command_line bs ≡ true → 1 ≤ length bs
unfolding is_command_line
command_some bs h = grind arith

pub length-hex_text : (bs : List ℕ) → length (hex_text bs) ≡ 2 * length bs
length-hex_text = length-each_in_turn (hex_digits 2) 2 (length-hex_digits 2)

pub hex_value_byte : (a b : ℕ) → hex_value (a ∷ b ∷ []) < 256
hex_value_byte a b = hex_value_below (a ∷ b ∷ [])

length-front : (bs : List ℕ) → length (front bs) ≤ length bs
length-front bs = omega (arith, length-take-le (length bs - 1) bs (omega arith))

hex_fits : (p : ℕ) (bs : List ℕ) → length bs ≤ received_most → length (hex_placed p bs) ≤ 4096
hex_fits p [] h = omega arith
hex_fits p (b ∷ bs) h = omega (arith, length-hex_text (b ∷ bs))

bytes_fit : (p : ℕ) (bs : List ℕ) → length bs ≤ received_most → length (bytes_text p bs) ≤ 4096
unfolding bytes_text
bytes_fit p bs h =
    if_all (λ (l : List ℕ). length l ≤ 4096) (is_command_line bs) (omega (arith, length-front bs)) (hex_fits p bs h)

pub call_fits : (c : LogCall) → is_sayable c ≡ true → length (call_text c) ≤ 4096
unfolding call_text
call_fits (opens p r) h = omega (arith, length-hex_digits 8 r)
call_fits (receives p bs) h =
    bytes_fit p bs
    (leb-true (length bs) received_most (both_right (is_place_number p) (nat_le (length bs) received_most) h))
call_fits (passes n) h = omega (arith, digits_at_most_10 n)
call_fits (closes p) h = omega arith
call_fits (faults m) h = omega arith
call_fits (reports ds) h =
    omega (
      arith,
      length-map ds number_digit,
      eqb-true (length ds) 6 (both_left (length ds == 6) (list_all is_error_digit ds) h),
    )
call_fits (enables k m) h = omega arith

summed_fits : (n s : ℕ) → length (summed_text n s) ≤ 19
summed_fits n s = omega (
  arith,
  length-append (digits n ++ codes " ") (hex_digits 8 s),
  length-append (digits n) (codes " "),
  length-hex_digits 8 s,
  digits_at_most_10 n,
)

pub stated_short : (s : List ℕ) → (is_plain s && nat_le (length s) shown_most) ≡ true → length s ≤ 128
stated_short s h = leb-true (length s) shown_most (both_right (is_plain s) (nat_le (length s) shown_most) h)

time_fits : (t : Option (List ℕ)) → is_time_if_any t ≡ true → length (time_text t) ≤ 36
unfolding is_time
time_fits None h = omega arith
time_fits (Some t) h = grind arith

pub entry_fits : (e : LogEntry) → is_sayable_entry e ≡ true → length (entry_text e) ≤ 4096
unfolding entry_text
entry_fits (header f s t) h =
    let short = time_fits t (both_right (nat_le 1 f && nat_le f number_most) (is_time_if_any t) h) in
    omega (arith, summed_fits f s, short, length-append (codes "LOG 2 " ++ summed_text f s) (time_text t))
entry_fits (call c) h = call_fits c h
entry_fits (stated n s shown) h =
    omega (
      arith,
      summed_fits n s,
      stated_short shown h,
      length-append (codes "S " ++ summed_text n s) (codes " " ++ shown),
    )

-- a line that is summed without its LF, and then that
pub sum_past_lf : (sum : ℕ) (l : List ℕ) → crc32_on (crc32_on sum l) (codes "\n") ≡ crc32_on sum (l ++ codes "\n")
sum_past_lf sum l = sym (crc32_on-append sum l (codes "\n"))
