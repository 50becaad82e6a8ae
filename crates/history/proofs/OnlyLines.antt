-- No other line says an entry: what a line says can be said, and the line is its text.
-- Assumes nothing.
use Rattle.std.specs.List.{list_all}
use Rattle.std.proofs.Common.{ℕ, suc, ◌+◌, ◌*◌, ◌-◌, ◌%◌, ◌≤◌, ◌≡◌, Bool, true, false, not, List, [], ◌∷◌}
use Rattle.std.proofs.Common.{◌++◌, arith, length, take, drop, nat_le, leb-true, le-leb, eqb-true, ap, subst, refl}
use Rattle.std.proofs.Common.{sym, ◌∙◌, ◌==◌, codes, Option, Some, None, ◌⊎◌, inl, inr, ◌&&◌, length-append}
use Rattle.std.proofs.Common.{slice_index_or, append_assoc, length-take, if◌then◌else◌}
use Rattle.std.proofs.Math.Seq.{take-append_seam, get_or-append_seam}
use Rattle.std.proofs.lemmas.Bool.{not-true}
use Rattle.std.proofs.lemmas.Bool.Decides.{nat_tests}
use Rattle.std.proofs.lemmas.List.{take-append-drop}
use Rattle.std.proofs.lemmas.Option.{same_Some, some_pair_parts}
use Prim.Native.Char.{code}
use Rattle.text.specs.Words.{◌is◌, ◌from◌to◌}
use Rattle.text.specs.Scans.{index_of}
use Rattle.text.proofs.Choices.{if_yes, if_no, both, both_left, both_right}
use Rattle.numbers.specs.Decimal.{digits, is_digit, decimal_value}
use Rattle.numbers.proofs.OneForm.{digits_one_form}
use Rattle.digest.specs.Hex.{hex_digits, hex_value, is_hex_digit}
use Rattle.digest.proofs.OneForm.{hex_one_form}
use Rattle.words.specs.Codec.{◌>>=◌}
use Rattle.words.specs.Combinations.{bind_some, cond_is, whole_says}
use Rattle.words.specs.ErrorDigits.{errors_read}
use Rattle.words.specs.Codec.{whole_value}
use Rattle.words.specs.Laws.{errors_codec}
use Rattle.history.specs.Calls.{LogCall, opens, receives, passes, closes, faults, reports, enables, is_sayable}
use Rattle.history.specs.Calls.{received_most, is_place_number}
use Rattle.history.specs.Lines.{figure, switch_figure, is_plain, front, is_command_line, hex_text, placed_text}
use Rattle.history.specs.Lines.{place_head}
use Rattle.history.specs.Lines.{hex_placed, bytes_text, call_text, number_most, is_shortest, decimal_in, opening_in}
use Rattle.history.specs.Lines.{command_in, hex_bytes, hex_in, passing_in, errors_in, call_at, call_alone, placed_in}
use Rattle.history.specs.Lines.{fault_in, lamp_in, kind_in, call_in}
use Rattle.history.specs.Entries.{LogEntry, header, call, stated, is_sayable_entry, is_time, shown_most}
use Rattle.history.specs.Entries.{summed_text, entry_text, first_word, past_word, sum_in, summed_in, header_of}
use Rattle.history.specs.Entries.{stated_of}
use Rattle.history.specs.Entries.{header_in, stated_in, entry_in}
use Rattle.history.proofs.Fits.{length-hex_text}

chosen : {A : Type 0} (t : Bool) (a b : Option A) {y : A} → (if t then a else b) ≡ Some y
    → ((t ≡ true) × (a ≡ Some y)) ⊎ (b ≡ Some y)
chosen true a b e = inl (refl, e)
chosen false a b e = inr e

-- five tests that hold together
record Five (a b c d e : Bool) : Type 0 where
  first : a ≡ true
  second : b ≡ true
  third : c ≡ true
  fourth : d ≡ true
  fifth : e ≡ true

five : (a b c d e : Bool) → (a && b && c && d && e) ≡ true → Five a b c d e
five a b c d e h =
    let four = both_left (a && b && c && d) e h in
    let three = both_left (a && b && c) d four in
    let two = both_left (a && b) c three in
    record {
      first = both_left a b two;
      second = both_right a b two;
      third = both_right (a && b) c three;
      fourth = both_right (a && b && c) d four;
      fifth = both_right (a && b && c && d) e h;
    }

-- ---- a number

shortest_first : (s : List ℕ) → is_shortest s ≡ true → 2 ≤ length s → slice_index_or s 0 0 ≡ code "0" → ⊥
shortest_first s h some e = grind (arith, nat_tests)

decimal_only : (s : List ℕ) (n : ℕ) → decimal_in s ≡ Some n → (s ≡ digits n) × (n ≤ number_most)
unfolding decimal_in
decimal_only s n e =
    let (h, same) = cond_is _ (Some (decimal_value s)) e in
    let v : decimal_value s ≡ n = same_Some _ _ same in
    let are : Five
    (nat_le 1 (length s)) (nat_le (length s) 10) (is_shortest s) (list_all is_digit s)
    (nat_le (decimal_value s) number_most)
    = five _ _ _ _ _ h in
    let few : decimal_value s ≤ number_most = leb-true (decimal_value s) number_most are.fifth in
    let some : 1 ≤ length s = leb-true 1 (length s) are.first in (
      sym (digits_one_form s
          (record { some = some; figures = are.fourth; first = shortest_first s are.third })
          (omega (arith, few)))
          ∙ ap digits v,
      omega (arith, few, v),
    )

-- ---- what stands at a place

abbrev Only : List ℕ → LogCall → Type 0
Only l c = (l ≡ call_text c) × (is_sayable c ≡ true)

opening_only : (p : ℕ) (s : List ℕ) (c : LogCall) → is_place_number p ≡ true → opening_in p s ≡ Some c
    → Only (placed_text "O" p s) c
unfolding opening_in call_text
opening_only p s c there e =
    let (h, same) = cond_is _ (Some (opens p (hex_value s))) e in
    let long = eqb-true (length s) 8 (both_left _ _ h) in
    let all : list_all is_hex_digit s ≡ true = both_right _ (list_all is_hex_digit s) h in
    let figures : hex_digits 8 (hex_value s) ≡ s
    = ap (λ (n : ℕ). hex_digits n (hex_value s)) (sym long) ∙ hex_one_form s all in
    subst (λ (c : LogCall). Only (placed_text "O" p s) c) (same_Some _ _ same)
    (ap (placed_text "O" p) (sym figures), there)

front_of : (s : List ℕ) → front (s ++ codes "\r") ≡ s
front_of s =
    let n : length (s ++ codes "\r") - 1 ≡ length s = omega (arith, length-append s (codes "\r")) in
    ap (λ (n : ℕ). take n (s ++ codes "\r")) n ∙ take-append_seam s (codes "\r")

text_is_line : (s : List ℕ) → is_plain s ≡ true → is_command_line (s ++ codes "\r") ≡ true
unfolding is_command_line
text_is_line s h =
    let long = length-append s (codes "\r") in
    let n : length (s ++ codes "\r") - 1 ≡ length s = omega (arith, long) in
    both
    (both (le-leb 1 (length (s ++ codes "\r")) (omega (arith, long)))
    (ap (λ (n : ℕ). slice_index_or (s ++ codes "\r") n 0 == code "\r") n
    ∙ ap (λ (b : ℕ). b == code "\r") (get_or-append_seam s (code "\r") [] 0)))
    (ap is_plain (front_of s) ∙ h)

command_only : (p : ℕ) (s : List ℕ) (c : LogCall) → is_place_number p ≡ true → command_in p s ≡ Some c
    → Only (placed_text "R" p s) c
unfolding command_in call_text bytes_text
command_only p s c there e =
    let (h, same) = cond_is _ (Some (receives p (s ++ codes "\r"))) e in
    let few = leb-true (length s + 1) received_most (both_left _ _ h) in
    let text : is_command_line (s ++ codes "\r") ≡ true = text_is_line s (both_right _ (is_plain s) h) in
    subst (λ (c : LogCall). Only (placed_text "R" p s) c) (same_Some _ _ same) (
      ap (placed_text "R" p) (sym (front_of s)) ∙ sym (if_yes _ _ text),
      both there (le-leb (length (s ++ codes "\r")) received_most (omega (arith, few, length-append s (codes "\r")))),
    )

hex_pairs : (s : List ℕ) → length s % 2 ≡ 0 → list_all is_hex_digit s ≡ true → hex_text (hex_bytes s) ≡ s
unfolding hex_bytes
hex_pairs [] even h = refl
hex_pairs (a ∷ []) even h = absurd (omega (arith, even))
hex_pairs (a ∷ b ∷ s) even h =
    let first : list_all is_hex_digit (a ∷ b ∷ []) ≡ true = grind arith in
    let rest : list_all is_hex_digit s ≡ true = grind arith in
    (λ i. hex_one_form (a ∷ b ∷ []) first i ++ hex_pairs s (omega (arith, even)) rest i)

some_placed : (p : ℕ) (bs : List ℕ) → 1 ≤ length bs → hex_placed p bs ≡ placed_text "B" p (hex_text bs)
some_placed p [] h = absurd (omega (arith, h))
some_placed p (b ∷ bs) h = refl

hex_only : (p : ℕ) (s : List ℕ) (c : LogCall) → is_place_number p ≡ true → hex_in p s ≡ Some c
    → Only (placed_text "B" p s) c
unfolding hex_in call_text bytes_text
hex_only p s c there e =
    let (h, same) = cond_is _ (Some (receives p (hex_bytes s))) e in
    let are : Five
    (nat_le 2 (length s)) (nat_le (length s) (2 * received_most)) (length s % 2 == 0) (list_all is_hex_digit s)
    (not (is_command_line (hex_bytes s)))
    = five _ _ _ _ _ h in
    let other : is_command_line (hex_bytes s) ≡ false = not-true _ are.fifth in
    let few : length s ≤ 2 * received_most = leb-true (length s) (2 * received_most) are.second in
    let some : 2 ≤ length s = leb-true 2 (length s) are.first in
    let pairs = hex_pairs s (eqb-true (length s % 2) 0 are.third) are.fourth in
    let long : length s ≡ 2 * length (hex_bytes s) = ap length (sym pairs) ∙ length-hex_text (hex_bytes s) in
    subst (λ (c : LogCall). Only (placed_text "B" p s) c) (same_Some _ _ same) (
      ap (placed_text "B" p) (sym pairs) ∙ sym (some_placed p (hex_bytes s) (omega (arith, some, long)))
          ∙ sym (if_no _ _ other),
      both there (le-leb (length (hex_bytes s)) received_most (omega (arith, few, long))),
    )

at_only : (k p : ℕ) (s : List ℕ) (c : LogCall) → is_place_number p ≡ true → call_at k p s ≡ Some c
    → Only (k ∷ code " " ∷ figure p ∷ code " " ∷ s) c
unfolding call_at
at_only k p s c there e =
    elim (chosen (k is "O") (opening_in p s) _ e) [
      | inl (o, m) ↦
          subst (λ (k : ℕ). Only (k ∷ code " " ∷ figure p ∷ code " " ∷ s) c) (sym (eqb-true k (code "O") o))
          (opening_only p s c there m)
      | inr e ↦
          elim (chosen (k is "R") (command_in p s) _ e) [
            | inl (o, m) ↦
                subst (λ (k : ℕ). Only (k ∷ code " " ∷ figure p ∷ code " " ∷ s) c) (sym (eqb-true k (code "R") o))
                (command_only p s c there m)
            | inr e ↦
                let (o, m) = cond_is (k is "B") (hex_in p s) e in
                subst (λ (k : ℕ). Only (k ∷ code " " ∷ figure p ∷ code " " ∷ s) c) (sym (eqb-true k (code "B") o))
                (hex_only p s c there m)
          ]
    ]

closing_only : (p : ℕ) (c : LogCall) → is_place_number p ≡ true → Some (closes p) ≡ Some c
    → Only (place_head (code "X") p) c
unfolding call_text
closing_only p c there e =
    subst (λ (c : LogCall). Only (place_head (code "X") p) c) (same_Some _ _ e) (refl, there)

nothing_only : (p : ℕ) (c : LogCall) → is_place_number p ≡ true → Some (receives p []) ≡ Some c
    → Only (place_head (code "B") p) c
unfolding call_text bytes_text is_command_line
nothing_only p c there e =
    subst (λ (c : LogCall). Only (place_head (code "B") p) c) (same_Some _ _ e) (refl, both there refl)

alone_only : (k p : ℕ) (c : LogCall) → is_place_number p ≡ true → call_alone k p ≡ Some c → Only (place_head k p) c
unfolding call_alone
alone_only k p c there e =
    elim (chosen (k is "X") (Some (closes p)) _ e) [
      | inl (o, m) ↦
          subst (λ (k : ℕ). Only (place_head k p) c) (sym (eqb-true k (code "X") o)) (closing_only p c there m)
      | inr e ↦
          let (o, m) = cond_is (k is "B") (Some (receives p [])) e in
          subst (λ (k : ℕ). Only (place_head k p) c) (sym (eqb-true k (code "B") o)) (nothing_only p c there m)
    ]

place_figure : (p : ℕ) → (p from "0" to "3") ≡ true
    → (is_place_number (p - code "0") ≡ true) × (figure (p - code "0") ≡ p)
place_figure p h = (grind (arith, nat_tests), grind (arith, nat_tests))

placed_only : (k : ℕ) (s : List ℕ) (c : LogCall) → placed_in k s ≡ Some c → Only (k ∷ code " " ∷ s) c
unfolding placed_in
placed_only k [] c e = cc
placed_only k (p ∷ []) c e =
    let (h, m) = cond_is _ (call_alone k (p - code "0")) e in
    let (there, same) = place_figure p h in
    subst (λ (q : ℕ). Only (k ∷ code " " ∷ q ∷ []) c) same (alone_only k (p - code "0") c there m)
placed_only k (p ∷ b ∷ s) c e =
    let (h, m) = cond_is _ (call_at k (p - code "0") s) e in
    let (there, same) = place_figure p (both_left _ (b is " ") h) in
    let space = eqb-true b (code " ") (both_right _ (b is " ") h) in
    subst (λ (b : ℕ). Only (k ∷ code " " ∷ p ∷ b ∷ s) c) (sym space)
    (subst (λ (q : ℕ). Only (k ∷ code " " ∷ q ∷ code " " ∷ s) c) same (at_only k (p - code "0") s c there m))

-- ---- the others

passing_only : (s : List ℕ) (c : LogCall) → passing_in s ≡ Some c → Only (code "T" ∷ code " " ∷ s) c
unfolding passing_in call_text
passing_only s c e =
    let (n, m, same) = bind_some (decimal_in s) (λ n. Some (passes n)) e in
    subst (λ (c : LogCall). Only (code "T" ∷ code " " ∷ s) c) (same_Some _ _ same)
    (ap (λ (l : List ℕ). code "T" ∷ code " " ∷ l) (decimal_only s n m).0, refl)

switch_only : (m : ℕ) → (m from "0" to "1") ≡ true → switch_figure (m is "1") ≡ m
switch_only m h = grind (arith, nat_tests)

fault_only : (s : List ℕ) (c : LogCall) → fault_in s ≡ Some c → Only (code "F" ∷ code " " ∷ s) c
unfolding fault_in call_text
fault_only [] c e = cc
fault_only (m ∷ n ∷ s) c e = cc
fault_only (m ∷ []) c e =
    let (h, same) = cond_is _ (Some (faults (m is "1"))) e in
    subst (λ (c : LogCall). Only (code "F" ∷ code " " ∷ m ∷ []) c) (same_Some _ _ same)
    (ap (λ (n : ℕ). code "F" ∷ code " " ∷ n ∷ []) (sym (switch_only m h)), refl)

errors_only : (s : List ℕ) (c : LogCall) → errors_in s ≡ Some c → Only (code "E" ∷ code " " ∷ s) c
unfolding errors_in call_text
errors_only s c e =
    let (ds, m, same) = bind_some (whole_value errors_read s) (λ ds. Some (reports ds)) e in
    let (right, text) = (whole_says errors_codec).sound s ds m in
    subst (λ (c : LogCall). Only (code "E" ∷ code " " ∷ s) c) (same_Some _ _ same)
    (ap (λ (l : List ℕ). code "E" ∷ code " " ∷ l) text, right)

lamp_figure : (k : ℕ) → (k from "1" to "8") ≡ true → (figure (k - code "1" + 1) ≡ k) × (nat_le (k - code "1") 7 ≡ true)
lamp_figure k h = (grind (arith, nat_tests), grind (arith, nat_tests))

lamp_only : (s : List ℕ) (c : LogCall) → lamp_in s ≡ Some c → Only (code "M" ∷ code " " ∷ s) c
unfolding lamp_in call_text
lamp_only [] c e = cc
lamp_only (k ∷ []) c e = cc
lamp_only (k ∷ b ∷ []) c e = cc
lamp_only (k ∷ b ∷ m ∷ n ∷ s) c e = cc
lamp_only (k ∷ b ∷ m ∷ []) c e =
    let (h, same) = cond_is _ (Some (enables (k - code "1") (m is "1"))) e in
    let mark = switch_only m (both_right _ (m from "0" to "1") h) in
    let (lamp, there) = lamp_figure k (both_left _ (b is " ") (both_left _ (m from "0" to "1") h)) in
    let space = eqb-true b (code " ") (both_right _ (b is " ") (both_left _ (m from "0" to "1") h)) in
    subst (λ (c : LogCall). Only (code "M" ∷ code " " ∷ k ∷ b ∷ m ∷ []) c) (same_Some _ _ same)
    ((λ i. code "M" ∷ code " " ∷ sym lamp i ∷ space i ∷ sym mark i ∷ []), there)

abbrev Lettered : ℕ → List ℕ → LogCall → Type 0
Lettered k s c = Only (k ∷ code " " ∷ s) c

kind_only : (k : ℕ) (s : List ℕ) (c : LogCall) → kind_in k s ≡ Some c → Lettered k s c
unfolding kind_in
kind_only k s c e =
    elim (chosen (k is "T") (passing_in s) _ e) [
      | inl (o, m) ↦ subst (λ (k : ℕ). Lettered k s c) (sym (eqb-true k (code "T") o)) (passing_only s c m)
      | inr e ↦
          elim (chosen (k is "F") (fault_in s) _ e) [
            | inl (o, m) ↦ subst (λ (k : ℕ). Lettered k s c) (sym (eqb-true k (code "F") o)) (fault_only s c m)
            | inr e ↦
                elim (chosen (k is "E") (errors_in s) _ e) [
                  | inl (o, m) ↦ subst (λ (k : ℕ). Lettered k s c) (sym (eqb-true k (code "E") o)) (errors_only s c m)
                  | inr e ↦
                      elim (chosen (k is "M") (lamp_in s) _ e) [
                        | inl (o, m) ↦
                            subst (λ (k : ℕ). Lettered k s c) (sym (eqb-true k (code "M") o)) (lamp_only s c m)
                        | inr e ↦ placed_only k s c e
                      ]
                ]
          ]
    ]

call_only : (l : List ℕ) (c : LogCall) → call_in l ≡ Some c → Only l c
unfolding call_in
call_only [] c e = cc
call_only (k ∷ []) c e = cc
call_only (k ∷ b ∷ s) c e =
    let (o, m) = cond_is (b is " ") (kind_in k s) e in
    subst (λ (b : ℕ). Only (k ∷ b ∷ s) c) (sym (eqb-true b (code " ") o)) (kind_only k s c m)

-- ---- a number and a sum

abbrev Splits : List ℕ → Type 0
Splits s = s ≡ first_word s ++ (code " " ∷ past_word s)

split_next : (b : ℕ) (s : List ℕ) (t : Bool) → (b is " ") ≡ t → (1 ≤ length (past_word s) → Splits s)
    → 1 ≤ length (past_word (b ∷ s))
    → Splits (b ∷ s)
split_next b s true e rest h =
    let here : index_of (code " ") (b ∷ s) ≡ 0 = grind (arith, e) in
    (λ i. eqb-true b (code " ") e i ∷ s) ∙ sym (λ i. take (here i) (b ∷ s) ++ (code " " ∷ drop (here i + 1) (b ∷ s)))
split_next b s false e rest h =
    let next : index_of (code " ") (b ∷ s) ≡ suc (index_of (code " ") s) = grind (arith, e) in
    let place : index_of (code " ") (b ∷ s) + 1 ≡ suc (index_of (code " ") s + 1) = omega (arith, next) in
    let past : past_word (b ∷ s) ≡ past_word s = ap (λ (k : ℕ). drop k (b ∷ s)) place in
    let word : first_word (b ∷ s) ≡ b ∷ first_word s = ap (λ (k : ℕ). take k (b ∷ s)) next in
    ap (λ (l : List ℕ). b ∷ l) (rest (subst (λ (l : List ℕ). 1 ≤ length l) past h))
    ∙ sym (λ i. word i ++ (code " " ∷ past i))

word_split : (s : List ℕ) → 1 ≤ length (past_word s) → Splits s
word_split [] h = absurd (omega (arith, h))
word_split (b ∷ s) h = split_next b s (b is " ") refl (word_split s) h

sum_only : (s : List ℕ) (r : ℕ × List ℕ) → sum_in s ≡ Some r → (s ≡ hex_digits 8 r.0 ++ r.1) × (8 ≤ length s)
unfolding sum_in
sum_only s r e =
    let (h, same) = cond_is _ (Some (hex_value (take 8 s), drop 8 s)) e in
    let some = leb-true 8 (length s) (both_left _ _ h) in
    let parts = some_pair_parts (hex_value (take 8 s)) r.0 (drop 8 s) r.1 same in
    let long : length (take 8 s) ≡ 8 = omega (arith, some, length-take 8 s) in
    let figures : hex_digits 8 (hex_value (take 8 s)) ≡ take 8 s
    = ap (λ (n : ℕ). hex_digits n (hex_value (take 8 s))) (sym long)
    ∙ hex_one_form (take 8 s) (both_right _ (list_all is_hex_digit (take 8 s)) h) in (
      sym (take-append-drop 8 s) ∙ (λ i. sym figures i ++ parts.1 i)
          ∙ (λ i. hex_digits 8 (parts.0 i) ++ r.1),
      some,
    )

record Summed (s : List ℕ) (n sum : ℕ) (rest : List ℕ) : Type 0 where
  text : s ≡ summed_text n sum ++ rest
  few : n ≤ number_most

summed_only : (s : List ℕ) (r : ℕ × (ℕ × List ℕ)) → summed_in s ≡ Some r → Summed s r.0 r.1.0 r.1.1
unfolding summed_in
summed_only s r e =
    let (n, word, more) = bind_some (decimal_in (first_word s)) (λ n. sum_in (past_word s) >>= λ r. Some (n, r)) e in
    let (q, past, same) = bind_some (sum_in (past_word s)) (λ r. Some (n, r)) more in
    let (text, few) = decimal_only (first_word s) n word in
    let (behind, some) = sum_only (past_word s) q past in
    let whole : s ≡ summed_text n q.0 ++ q.1
    = word_split s (omega (arith, some))
    ∙ (λ i. text i ++ (code " " ∷ behind i))
    ∙ sym (append_assoc (digits n ++ codes " ") (hex_digits 8 q.0) q.1
    ∙ append_assoc (digits n) (codes " ") (hex_digits 8 q.0 ++ q.1)) in
    subst (λ (r : ℕ × (ℕ × List ℕ)). Summed s r.0 r.1.0 r.1.1) (same_Some _ _ same) (record { text = whole; few = few })

abbrev OnlyEntry : List ℕ → LogEntry → Type 0
OnlyEntry l e = (l ≡ entry_text e) × (is_sayable_entry e ≡ true)

time_only : (f s : ℕ) (rest : List ℕ) (e : LogEntry) → f ≤ number_most → header_of f s rest ≡ Some e
    → OnlyEntry (codes "LOG 2 " ++ (summed_text f s ++ rest)) e
unfolding header_of entry_text
time_only f s [] e few h =
    let (some, same) = cond_is _ (Some (header f s None)) h in
    subst (λ (e : LogEntry). OnlyEntry (codes "LOG 2 " ++ (summed_text f s ++ [])) e) (same_Some _ _ same)
    (sym (append_assoc (codes "LOG 2 ") (summed_text f s) []), both (both some (le-leb f number_most few)) refl)
time_only f s (b ∷ t) e few h =
    let (k, same) = cond_is _ (Some (header f s (Some t))) h in
    let time : is_time t ≡ true = both_right _ (is_time t) k in
    let space = eqb-true b (code " ") (both_right _ (b is " ") (both_left _ (is_time t) k)) in
    let some = both_left _ (b is " ") (both_left _ (is_time t) k) in
    subst (λ (e : LogEntry). OnlyEntry (codes "LOG 2 " ++ (summed_text f s ++ (b ∷ t))) e) (same_Some _ _ same) (
      ap (λ (b : ℕ). codes "LOG 2 " ++ (summed_text f s ++ (b ∷ t))) space
          ∙ sym (append_assoc (codes "LOG 2 ") (summed_text f s) (code " " ∷ t)),
      both (both some (le-leb f number_most few)) time,
    )

shown_only : (n s : ℕ) (rest : List ℕ) (e : LogEntry) → stated_of n s rest ≡ Some e
    → OnlyEntry (codes "S " ++ (summed_text n s ++ rest)) e
unfolding stated_of entry_text
shown_only n s [] e h = cc
shown_only n s (b ∷ t) e h =
    let (k, same) = cond_is _ (Some (stated n s t)) h in
    let short = both_right _ (nat_le (length t) shown_most) k in
    let plain = both_right _ (is_plain t) (both_left _ (nat_le (length t) shown_most) k) in
    let space = eqb-true b (code " ") (both_left _ (is_plain t) (both_left _ (nat_le (length t) shown_most) k)) in
    subst (λ (e : LogEntry). OnlyEntry (codes "S " ++ (summed_text n s ++ (b ∷ t))) e) (same_Some _ _ same) (
      ap (λ (b : ℕ). codes "S " ++ (summed_text n s ++ (b ∷ t))) space
          ∙ sym (append_assoc (codes "S ") (summed_text n s) (code " " ∷ t)),
      both plain short,
    )

header_only : (s : List ℕ) (e : LogEntry) → header_in s ≡ Some e → OnlyEntry (code "L" ∷ s) e
unfolding header_in
header_only [] e h = cc
header_only (o ∷ []) e h = cc
header_only (o ∷ g ∷ []) e h = cc
header_only (o ∷ g ∷ b ∷ []) e h = cc
header_only (o ∷ g ∷ b ∷ k ∷ []) e h = cc
header_only (o ∷ g ∷ b ∷ k ∷ c ∷ s) e h =
    let (q, m) = cond_is _ (summed_in s >>= λ r. header_of r.0 r.1.0 r.1.1) h in
    let e5 = eqb-true c (code " ") (both_right _ (c is " ") q) in
    let q4 = both_left _ (c is " ") q in
    let e4 = eqb-true k (code "2") (both_right _ (k is "2") q4) in
    let q3 = both_left _ (k is "2") q4 in
    let e3 = eqb-true b (code " ") (both_right _ (b is " ") q3) in
    let q2 = both_left _ (b is " ") q3 in
    let e2 = eqb-true g (code "G") (both_right _ (g is "G") q2) in
    let e1 = eqb-true o (code "O") (both_left _ (g is "G") q2) in
    let (r, w, t) = bind_some (summed_in s) (λ r. header_of r.0 r.1.0 r.1.1) m in
    let summed = summed_only s r w in
    let (text, sayable) = time_only r.0 r.1.0 r.1.1 e summed.few t in
    ((λ i. code "L" ∷ e1 i ∷ e2 i ∷ e3 i ∷ e4 i ∷ e5 i ∷ summed.text i) ∙ text, sayable)

stated_only : (s : List ℕ) (e : LogEntry) → stated_in s ≡ Some e → OnlyEntry (code "S" ∷ s) e
unfolding stated_in
stated_only [] e h = cc
stated_only (b ∷ s) e h =
    let (q, m) = cond_is (b is " ") (summed_in s >>= λ r. stated_of r.0 r.1.0 r.1.1) h in
    let (r, w, t) = bind_some (summed_in s) (λ r. stated_of r.0 r.1.0 r.1.1) m in
    let (text, sayable) = shown_only r.0 r.1.0 r.1.1 e t in
    ((λ i. code "S" ∷ eqb-true b (code " ") q i ∷ (summed_only s r w).text i) ∙ text, sayable)

said_call : (l : List ℕ) (e : LogEntry) → (call_in l >>= λ c. Some (call c)) ≡ Some e → OnlyEntry l e
unfolding entry_text
said_call l e h =
    let (c, m, same) = bind_some (call_in l) (λ c. Some (call c)) h in
    subst (λ (e : LogEntry). OnlyEntry l e) (same_Some _ _ same) (call_only l c m)

pub only_line : (l : List ℕ) (e : LogEntry) → entry_in l ≡ Some e → (l ≡ entry_text e) × (is_sayable_entry e ≡ true)
unfolding entry_in
only_line [] e h = cc
only_line (k ∷ s) e h =
    elim (chosen (k is "L") (header_in s) _ h) [
      | inl (o, m) ↦ subst (λ (k : ℕ). OnlyEntry (k ∷ s) e) (sym (eqb-true k (code "L") o)) (header_only s e m)
      | inr h ↦
          elim (chosen (k is "S") (stated_in s) _ h) [
            | inl (o, m) ↦ subst (λ (k : ℕ). OnlyEntry (k ∷ s) e) (sym (eqb-true k (code "S") o)) (stated_only s e m)
            | inr h ↦ said_call (k ∷ s) e h
          ]
    ]
