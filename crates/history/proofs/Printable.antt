-- A line is printable ASCII; so it has no LF in it, and its bytes are bytes.
-- Assumes nothing.
use Rattle.std.specs.List.{list_all}
use Rattle.std.proofs.Common.{ℕ, ◌+◌, ◌≡◌, Bool, true, false, not, ◌&&◌, List, [], ◌∷◌, ◌++◌, arith, length, nat_le}
use Rattle.std.proofs.Common.{◌==◌, refl}
use Rattle.std.proofs.Common.{zero, suc, ◌<◌, ◌≤◌, codes, Option, Some, None, leb-true, slice_index_or}
use Rattle.std.proofs.lemmas.Bool.Decides.{nat_tests}
use Rattle.text.specs.Words.{◌is◌}
use Rattle.text.proofs.Choices.{if_by, both, both_left, both_right}
use Rattle.text.proofs.Scanning.{list_all_implies, list_all-map, list_all-append}
use Rattle.text.proofs.InTurn.{list_all-each_in_turn}
use Rattle.numbers.specs.Decimal.{digits, is_digit}
use Rattle.numbers.proofs.Digits.{digits_are_digits}
use Rattle.digest.specs.Hex.{hex_digits, is_hex_digit}
use Rattle.digest.proofs.Laws.{hex_digits_are_digits}
use Rattle.words.specs.ErrorDigits.{is_error_digit}
use Rattle.words.specs.Inputs.{number_digit}
use Rattle.history.specs.Calls.{LogCall, opens, receives, passes, closes, faults, reports, enables, is_sayable}
use Rattle.history.specs.Calls.{is_place_number, is_lamp_number, received_most}
use Rattle.history.specs.Lines.{figure, switch_figure, is_printable, is_plain, front, is_command_line}
use Rattle.history.specs.Lines.{hex_placed}
use Rattle.history.specs.Lines.{bytes_text, call_text}
use Rattle.history.specs.Entries.{LogEntry, header, call, stated, is_sayable_entry, is_visible, is_time, is_time_if_any}
use Rattle.history.specs.Entries.{time_text}
use Rattle.history.specs.Entries.{shown_most, summed_text, entry_text, entry_line}
use Rattle.history.specs.Lines.{number_most}

figure_printable : (p : ℕ) → p ≤ 9 → is_printable (figure p) ≡ true
figure_printable p h = grind (arith, nat_tests)

switch_printable : (m : Bool) → is_printable (switch_figure m) ≡ true
switch_printable true = refl
switch_printable false = refl

hex_digit_printable : (b : ℕ) → is_hex_digit b ≡ true → is_printable b ≡ true
hex_digit_printable b h = grind (arith, nat_tests)

decimal_printable : (b : ℕ) → is_digit b ≡ true → is_printable b ≡ true
decimal_printable b h = grind (arith, nat_tests)

pub digits_printable : (n : ℕ) → list_all is_printable (digits n) ≡ true
digits_printable n = list_all_implies is_digit is_printable decimal_printable (digits n) (digits_are_digits n)

hex_printable : (n x : ℕ) → list_all is_printable (hex_digits n x) ≡ true
hex_printable n x =
    list_all_implies is_hex_digit is_printable hex_digit_printable (hex_digits n x) (hex_digits_are_digits n x)

visible_printable : (b : ℕ) → is_visible b ≡ true → is_printable b ≡ true
visible_printable b h = grind (arith, nat_tests)

digit_printable : (d : ℕ) → is_error_digit d ≡ true → is_printable (number_digit d) ≡ true
digit_printable d h = grind (arith, nat_tests)

plain_printable : (s : List ℕ) → is_plain s ≡ true → list_all is_printable s ≡ true
unfolding is_plain
plain_printable s h = both_right _ (list_all is_printable s) h

front_printable : (bs : List ℕ) → is_command_line bs ≡ true → list_all is_printable (front bs) ≡ true
unfolding is_command_line
front_printable bs h = plain_printable (front bs) (both_right _ (is_plain (front bs)) h)

in_hex_printable : (p : ℕ) (bs : List ℕ) → p ≤ 9 → list_all is_printable (hex_placed p bs) ≡ true
in_hex_printable p [] h = both (figure_printable p h) refl
in_hex_printable p (b ∷ bs) h = both (figure_printable p h)
    (list_all-each_in_turn (hex_digits 2) is_printable (hex_printable 2) (b ∷ bs))

bytes_printable : (p : ℕ) (bs : List ℕ) → p ≤ 9 → list_all is_printable (bytes_text p bs) ≡ true
unfolding bytes_text
bytes_printable p bs h =
    if_by (λ (l : List ℕ). list_all is_printable l ≡ true) (is_command_line bs)
    (λ e. both (figure_printable p h) (front_printable bs e))
    (λ e. in_hex_printable p bs h)

place_few : (p : ℕ) → is_place_number p ≡ true → p ≤ 9
place_few p h = omega (arith, leb-true p 3 h)

lamp_few : (k : ℕ) → is_lamp_number k ≡ true → k + 1 ≤ 9
lamp_few k h = omega (arith, leb-true k 7 h)

call_printable : (c : LogCall) → is_sayable c ≡ true → list_all is_printable (call_text c) ≡ true
unfolding call_text
call_printable (opens p r) h = both (figure_printable p (place_few p h)) (hex_printable 8 r)
call_printable (receives p bs) h =
    bytes_printable p bs (place_few p (both_left (is_place_number p) (nat_le (length bs) received_most) h))
call_printable (passes n) h = digits_printable n
call_printable (closes p) h = both (figure_printable p (place_few p h)) refl
call_printable (faults m) h = both (switch_printable m) refl
call_printable (reports ds) h =
    list_all-map is_error_digit is_printable number_digit digit_printable ds
    (both_right (length ds == 6) (list_all is_error_digit ds) h)
call_printable (enables k m) h = both (figure_printable (k + 1) (lamp_few k h)) (both (switch_printable m) refl)

summed_printable : (n s : ℕ) → list_all is_printable (summed_text n s) ≡ true
summed_printable n s =
    list_all-append is_printable (digits n ++ codes " ") (hex_digits 8 s)
    (list_all-append is_printable (digits n) (codes " ") (digits_printable n) refl) (hex_printable 8 s)

time_printable : (t : Option (List ℕ)) → is_time_if_any t ≡ true → list_all is_printable (time_text t) ≡ true
unfolding is_time
time_printable None h = refl
time_printable (Some t) h =
    list_all_implies is_visible is_printable visible_printable t (both_right _ (list_all is_visible t) h)

pub entry_printable : (e : LogEntry) → is_sayable_entry e ≡ true → list_all is_printable (entry_text e) ≡ true
unfolding entry_text
entry_printable (header f s t) h =
    list_all-append is_printable (codes "LOG 2 " ++ summed_text f s) (time_text t)
    (list_all-append is_printable (codes "LOG 2 ") (summed_text f s) refl (summed_printable f s))
    (time_printable t (both_right (nat_le 1 f && nat_le f number_most) (is_time_if_any t) h))
entry_printable (call c) h = call_printable c h
entry_printable (stated n s shown) h =
    list_all-append is_printable (codes "S " ++ summed_text n s) (codes " " ++ shown)
    (list_all-append is_printable (codes "S ") (summed_text n s) refl (summed_printable n s))
    (plain_printable shown (both_left (is_plain shown) (nat_le (length shown) shown_most) h))

abbrev pub not_lf : ℕ → Bool
not_lf b = not (b is "\n")

printable_no_lf : (b : ℕ) → is_printable b ≡ true → not_lf b ≡ true
printable_no_lf b h = grind (arith, nat_tests)

pub entry_no_lf : (e : LogEntry) → is_sayable_entry e ≡ true → list_all not_lf (entry_text e) ≡ true
entry_no_lf e h = list_all_implies is_printable not_lf printable_no_lf (entry_text e) (entry_printable e h)

byte_at : (b : ℕ) → is_printable b ≡ true → b < 256
byte_at b h = grind (arith, nat_tests)

-- each byte of a line is one
pub line_bytes : (e : LogEntry) → is_sayable_entry e ≡ true → (k : ℕ) → slice_index_or (entry_line e) k 0 < 256
line_bytes e h k = bytes_then (entry_text e) (entry_printable e h) k
  where
    bytes_then : (s : List ℕ) → list_all is_printable s ≡ true → (k : ℕ) → slice_index_or (s ++ codes "\n") k 0 < 256
    bytes_then [] p zero = omega arith
    bytes_then [] p (suc k) = omega arith
    bytes_then (b ∷ s) p zero = byte_at b (both_left (is_printable b) (list_all is_printable s) p)
    bytes_then (b ∷ s) p (suc k) = bytes_then s (both_right (is_printable b) (list_all is_printable s) p) k
