-- What a line says is the call that it was written for.
-- Assumes nothing.
use Rattle.std.specs.List.{list_all}
use Rattle.std.proofs.Common.{ℕ, zero, suc, ◌+◌, ◌*◌, ◌-◌, ◌%◌, ◌≤◌, ◌<◌, ◌^◌, ◌≡◌, Bool, true, false, not, List}
use Rattle.std.proofs.Common.{[], ◌∷◌, ◌++◌}
use Rattle.std.proofs.Common.{arith, length, nat_le, leb-true, le-leb, eq-eqb, ltb-true, ap}
use Rattle.std.proofs.Common.{◌∙◌, refl, sym}
use Rattle.std.proofs.Common.{Some, None, take, take_all, take-suc, length-take-le, slice_index_or, codes}
use Rattle.std.proofs.lemmas.Bool.Decides.{nat_tests}
use Prim.Native.Char.{code}
use Rattle.text.proofs.Choices.{if_yes, if_no, both, both_left, both_right}
use Rattle.text.proofs.InTurn.{list_all-each_in_turn}
use Rattle.numbers.specs.Decimal.{digits}
use Rattle.numbers.proofs.Digits.{digits_at_least_1, digits_at_most, digits_at_most_10, digits_are_digits}
use Rattle.numbers.proofs.LeadingZeros.{digits_no_leading_zero}
use Rattle.numbers.proofs.Values.{decimal_value-digits}
use Rattle.digest.specs.Hex.{hex_digits, hex_value, is_hex_digit}
use Rattle.digest.proofs.Laws.{length-hex_digits, hex_digits_are_digits, hex_value_back}
use Rattle.words.specs.Codec.{◌>>=◌}
use Rattle.words.specs.ErrorDigits.{errors_text, is_errors}
use Rattle.words.specs.Laws.{errors_codec}
use Rattle.words.specs.Combinations.{whole_says}
use Rattle.history.specs.Calls.{LogCall, opens, receives, passes, closes, faults, reports, enables, is_sayable, IsTyped}
use Rattle.history.specs.Calls.{received_most, is_byte, is_place_number, is_lamp_number}
use Rattle.history.specs.Lines.{figure, switch_figure, is_plain, front, is_command_line, hex_text}
use Rattle.history.specs.Lines.{hex_placed}
use Rattle.history.specs.Lines.{bytes_text, call_text, is_shortest, decimal_in, opening_in, command_in, hex_bytes}
use Rattle.history.specs.Lines.{hex_in}
use Rattle.history.specs.Lines.{passing_in, errors_in, call_at, call_alone, placed_in, fault_in, lamp_in, kind_in}
use Rattle.history.specs.Lines.{call_in}
use Rattle.history.proofs.Numbers.{number_read}
use Rattle.history.proofs.Fits.{length-hex_text, command_some}

-- ---- a number

digits_shortest : (n : ℕ) → n < 2 ^ 32 → is_shortest (digits n) ≡ true
digits_shortest zero h =
    let few = digits_at_most 0 zero h (omega arith) in
    let some = digits_at_least_1 zero in
    let one : length (digits zero) ≡ 1 = omega arith in
    grind (arith, nat_tests, one)
digits_shortest (suc n) h =
    let first = digits_no_leading_zero (suc n) (omega arith) h in
    grind (arith, nat_tests, first)

pub number_back : (n : ℕ) → n < 2 ^ 32 → decimal_in (digits n) ≡ Some n
number_back n h =
    number_read (digits n) (digits_at_least_1 n) (digits_at_most_10 n) (digits_shortest n h) (digits_are_digits n) n
    (decimal_value-digits n h) (omega arith)

-- ---- what stands at a place

opening_back : (p r : ℕ) → r < 2 ^ 32 → opening_in p (hex_digits 8 r) ≡ Some (opens p r)
unfolding opening_in
opening_back p r h =
    if_yes (Some (opens p (hex_value (hex_digits 8 r)))) None
    (both (eq-eqb (length (hex_digits 8 r)) 8 (length-hex_digits 8 r)) (hex_digits_are_digits 8 r))
    ∙ ap (λ (v : ℕ). Some (opens p v)) (hex_value_back 8 r h)

placed_back : (k p : ℕ) (s : List ℕ) → is_place_number p ≡ true
    → placed_in k (figure p ∷ code " " ∷ s) ≡ call_at k p s
unfolding placed_in
placed_back k p s h = grind (arith, nat_tests)

alone_back : (k p : ℕ) → is_place_number p ≡ true → placed_in k (figure p ∷ []) ≡ call_alone k p
unfolding placed_in
alone_back k p h = grind (arith, nat_tests)

hex_bytes_back : (bs : List ℕ) → list_all is_byte bs ≡ true → hex_bytes (hex_text bs) ≡ bs
unfolding hex_bytes
hex_bytes_back [] h = refl
hex_bytes_back (x ∷ xs) h =
    (λ i. hex_value_back 2 x (ltb-true x 256 (both_left (is_byte x) (list_all is_byte xs) h)) i
    ∷ hex_bytes_back xs (both_right (is_byte x) (list_all is_byte xs) h) i)

even : (n : ℕ) → (2 * n) % 2 ≡ 0
even n = omega arith

hex_back : (p : ℕ) (bs : List ℕ) → 1 ≤ length bs → length bs ≤ received_most → list_all is_byte bs ≡ true
    → is_command_line bs ≡ false
    → hex_in p (hex_text bs) ≡ Some (receives p bs)
unfolding hex_in
hex_back p bs some h typed other =
    let same = hex_bytes_back bs typed in
    let long = length-hex_text bs in
    if_yes (Some (receives p (hex_bytes (hex_text bs)))) None
    (both
    (both
    (both
    (both (le-leb 2 (length (hex_text bs)) (omega (arith, long)))
    (le-leb (length (hex_text bs)) (2 * received_most) (omega (arith, long))))
    (eq-eqb (length (hex_text bs) % 2) 0 (ap (λ (n : ℕ). n % 2) long ∙ even (length bs))))
    (list_all-each_in_turn (hex_digits 2) is_hex_digit (hex_digits_are_digits 2) bs))
    (ap (λ (l : List ℕ). not (is_command_line l)) same ∙ ap not other))
    ∙ ap (λ (l : List ℕ). Some (receives p l)) same

front_back : (bs : List ℕ) → is_command_line bs ≡ true → front bs ++ codes "\r" ≡ bs
unfolding is_command_line
front_back bs h =
    let some = command_some bs h in
    let last : slice_index_or bs (length bs - 1) 0 ≡ code "\r" = grind (arith, nat_tests) in
    let n : suc (length bs - 1) ≡ length bs = omega arith in
    ap (λ (b : ℕ). front bs ++ b ∷ []) (sym last)
    ∙ sym (take-suc bs (length bs - 1) 0 (omega arith))
    ∙ ap (λ (k : ℕ). take k bs) n
    ∙ take_all (length bs) bs (omega arith)

command_back : (p : ℕ) (bs : List ℕ) → length bs ≤ received_most → is_command_line bs ≡ true
    → command_in p (front bs) ≡ Some (receives p bs)
unfolding command_in is_command_line
command_back p bs h text =
    let some = command_some bs text in
    let long = length-take-le (length bs - 1) bs (omega arith) in
    let plain : is_plain (front bs) ≡ true = grind arith in
    if_yes (Some (receives p (front bs ++ codes "\r"))) None
    (both (le-leb (length (front bs) + 1) received_most (omega (arith, long))) plain)
    ∙ ap (λ (l : List ℕ). Some (receives p l)) (front_back bs text)

in_hex_back : (p : ℕ) (bs : List ℕ) → is_place_number p ≡ true → length bs ≤ received_most → list_all is_byte bs ≡ true
    → is_command_line bs ≡ false
    → call_in (hex_placed p bs) ≡ Some (receives p bs)
unfolding call_in kind_in call_at call_alone
in_hex_back p [] there h typed e = alone_back (code "B") p there
in_hex_back p (b ∷ bs) there h typed e =
    placed_back (code "B") p (hex_text (b ∷ bs)) there ∙ hex_back p (b ∷ bs) (omega arith) h typed e

bytes_back : (p : ℕ) (bs : List ℕ) → is_place_number p ≡ true → length bs ≤ received_most → list_all is_byte bs ≡ true
    → (t : Bool) → is_command_line bs ≡ t
    → call_in (bytes_text p bs) ≡ Some (receives p bs)
unfolding bytes_text call_in kind_in call_at
bytes_back p bs there h typed true e =
    ap call_in (if_yes _ _ e) ∙ placed_back (code "R") p (front bs) there ∙ command_back p bs h e
bytes_back p bs there h typed false e = ap call_in (if_no _ _ e) ∙ in_hex_back p bs there h typed e

-- ---- the others

passing_back : (n : ℕ) → n < 2 ^ 32 → passing_in (digits n) ≡ Some (passes n)
unfolding passing_in
passing_back n h = ap (λ o. o >>= λ n. Some (passes n)) (number_back n h)

errors_back : (ds : List ℕ) → is_errors ds ≡ true → errors_in (errors_text ds) ≡ Some (reports ds)
unfolding errors_in
errors_back ds h =
    ap (λ o. o >>= λ ds. Some (reports ds)) ((whole_says errors_codec).back ds (errors_text ds) (h, refl))

lamp_back : (k : ℕ) (m : Bool) → is_lamp_number k ≡ true
    → lamp_in (figure (k + 1) ∷ code " " ∷ switch_figure m ∷ []) ≡ Some (enables k m)
unfolding lamp_in
lamp_back k true h = grind (arith, nat_tests)
lamp_back k false h = grind (arith, nat_tests)

pub call_back : (c : LogCall) → IsTyped c → is_sayable c ≡ true → call_in (call_text c) ≡ Some c
unfolding call_text call_in kind_in call_at call_alone fault_in
call_back (opens p r) t h = placed_back (code "O") p (hex_digits 8 r) h ∙ opening_back p r t
call_back (receives p bs) t h =
    bytes_back p bs (both_left (is_place_number p) (nat_le (length bs) received_most) h)
    (leb-true (length bs) received_most (both_right (is_place_number p) (nat_le (length bs) received_most) h)) t
    (is_command_line bs) refl
call_back (passes n) t h = passing_back n t
call_back (closes p) t h = alone_back (code "X") p h
call_back (faults true) t h = refl
call_back (faults false) t h = refl
call_back (reports ds) t h = errors_back ds h
call_back (enables k m) t h = lamp_back k m h
