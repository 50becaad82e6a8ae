-- What a line says is what it was written for, whatever it says.
-- Assumes nothing.
use Rattle.std.specs.List.{list_all}
use Rattle.std.proofs.Common.{ℕ, suc, ◌+◌, ◌≤◌, ◌<◌, ◌^◌, ◌≡◌, Bool, true, false, not, ◌&&◌, List, [], ◌∷◌, ◌++◌}
use Rattle.std.proofs.Common.{arith, length, nat_le, leb-true, le-leb, ap, ◌∙◌, refl, sym}
use Rattle.std.proofs.Common.{codes}
use Rattle.std.proofs.Common.{Option, Some, None, take, drop, append_assoc, length-append}
use Rattle.std.proofs.Math.Seq.{take-append_seam, drop-append_seam}
use Rattle.std.proofs.lemmas.Bool.{not-true}
use Prim.Native.Char.{code}
use Rattle.text.specs.Words.{◌is◌}
use Rattle.text.specs.Scans.{index_of}
use Rattle.text.proofs.Choices.{if_yes, if_all, both, both_left, both_right}
use Rattle.numbers.specs.Decimal.{digits}
use Rattle.numbers.proofs.Digits.{digits_without}
use Rattle.digest.specs.Hex.{hex_digits, hex_value, is_hex_digit}
use Rattle.digest.proofs.Laws.{length-hex_digits, hex_digits_are_digits, hex_value_back}
use Rattle.words.specs.Codec.{◌>>=◌}
use Rattle.history.specs.Calls.{LogCall, opens, receives, passes, closes, faults, reports, enables}
use Rattle.history.specs.Lines.{is_plain, decimal_in, number_most, call_text, bytes_text, hex_placed, is_command_line}
use Rattle.history.specs.Lines.{call_in}
use Rattle.history.specs.Entries.{LogEntry, header, call, stated, is_sayable_entry, IsTypedEntry}
use Rattle.history.specs.Entries.{is_time_if_any, time_text}
use Rattle.history.specs.Entries.{shown_most, summed_text, entry_text, first_word, past_word, sum_in, summed_in}
use Rattle.history.specs.Entries.{header_of}
use Rattle.history.specs.Entries.{stated_of, header_in, stated_in, entry_in}
use Rattle.history.proofs.Back.{number_back, call_back}

-- ---- the first word ends at the first space

abbrev is_in_word : ℕ → Bool
is_in_word b = not (b is " ")

record Parts (s w rest : List ℕ) : Type 0 where
  word : first_word s ≡ w
  past : past_word s ≡ rest

one_further : (k : ℕ) → suc k + 1 ≡ suc (k + 1)
one_further k = omega arith

word_then : (w rest : List ℕ) → list_all is_in_word w ≡ true → Parts (w ++ (code " " ∷ rest)) w rest
word_then [] rest h = record { word = refl; past = refl }
word_then (b ∷ w) rest h =
    let more = word_then w rest (both_right (is_in_word b) (list_all is_in_word w) h) in
    let other : (b is " ") ≡ false = not-true _ (both_left (is_in_word b) (list_all is_in_word w) h) in
    let next : index_of (code " ") (b ∷ (w ++ (code " " ∷ rest))) ≡ suc (index_of (code " ") (w ++ (code " " ∷ rest)))
    = grind (arith, other) in
    record {
      word = ap (λ (k : ℕ). take k (b ∷ (w ++ (code " " ∷ rest)))) next ∙ ap (λ (l : List ℕ). b ∷ l) more.word;
      past = ap (λ (k : ℕ). drop (k + 1) (b ∷ (w ++ (code " " ∷ rest)))) next
          ∙ ap (λ (k : ℕ). drop k (b ∷ (w ++ (code " " ∷ rest)))) (one_further _)
          ∙ more.past;
    }

sum_taken : (w rest : List ℕ) → length w ≡ 8 → list_all is_hex_digit w ≡ true
    → sum_in (w ++ rest) ≡ Some (hex_value w, rest)
unfolding sum_in
sum_taken w rest long digits =
    let front : take 8 (w ++ rest) ≡ w
    = ap (λ (n : ℕ). take n (w ++ rest)) (sym long) ∙ take-append_seam w rest in
    let back : drop 8 (w ++ rest) ≡ rest
    = ap (λ (n : ℕ). drop n (w ++ rest)) (sym long) ∙ drop-append_seam w rest in
    let some : nat_le 8 (length (w ++ rest)) ≡ true
    = le-leb 8 (length (w ++ rest)) (omega (arith, length-append w rest)) in
    if_yes _ _ (both some (ap (list_all is_hex_digit) front ∙ digits)) ∙ (λ i. Some (hex_value (front i), back i))

sum_back : (s : ℕ) (rest : List ℕ) → s < 2 ^ 32 → sum_in (hex_digits 8 s ++ rest) ≡ Some (s, rest)
sum_back s rest h =
    sum_taken (hex_digits 8 s) rest (length-hex_digits 8 s) (hex_digits_are_digits 8 s)
    ∙ ap (λ (v : ℕ). Some (v, rest)) (hex_value_back 8 s h)

summed_back : (n s : ℕ) (rest : List ℕ) → n < 2 ^ 32 → s < 2 ^ 32
    → summed_in (summed_text n s ++ rest) ≡ Some (n, (s, rest))
unfolding summed_in
summed_back n s rest hn hs =
    let w = digits n in
    let behind = hex_digits 8 s ++ rest in
    let parts = word_then w behind (digits_without " " (omega arith) n) in
    let regrouped : summed_text n s ++ rest ≡ w ++ (code " " ∷ (hex_digits 8 s ++ rest))
    = append_assoc (w ++ codes " ") (hex_digits 8 s) rest ∙ append_assoc w (codes " ") (hex_digits 8 s ++ rest) in
    ap summed_in regrouped
    ∙ ap (λ (o : Option ℕ). o >>= λ n. sum_in (past_word (w ++ (code " " ∷ behind))) >>= λ r. Some (n, r))
    (ap decimal_in parts.word ∙ number_back n hn)
    ∙ ap (λ (l : List ℕ). sum_in l >>= λ r. Some (n, r)) parts.past
    ∙ ap (λ (o : Option (ℕ × List ℕ)). o >>= λ r. Some (n, r)) (sum_back s rest hs)

header_back : (f s : ℕ) (t : Option (List ℕ)) → 1 ≤ f → is_time_if_any t ≡ true
    → header_of f s (time_text t) ≡ Some (header f s t)
unfolding header_of
header_back f s None some h = if_yes _ _ (le-leb 1 f some)
header_back f s (Some t) some h = if_yes _ _ (both (both (le-leb 1 f some) refl) h)

stated_back : (n s : ℕ) (shown : List ℕ) → (is_plain shown && nat_le (length shown) shown_most) ≡ true
    → stated_of n s (codes " " ++ shown) ≡ Some (stated n s shown)
unfolding stated_of
stated_back n s shown h = if_yes _ _ h

-- a call's line begins with neither letter
abbrev Apart : List ℕ → Type 0
Apart l = entry_in l ≡ (call_in l >>= λ c. Some (call c))

hex_apart : (p : ℕ) (bs : List ℕ) → Apart (hex_placed p bs)
unfolding entry_in
hex_apart p [] = refl
hex_apart p (b ∷ bs) = refl

call_apart : (c : LogCall) → Apart (call_text c)
unfolding call_text bytes_text entry_in
call_apart (opens p r) = refl
call_apart (receives p bs) = if_all Apart (is_command_line bs) refl (hex_apart p bs)
call_apart (passes n) = refl
call_apart (closes p) = refl
call_apart (faults m) = refl
call_apart (reports ds) = refl
call_apart (enables k m) = refl

pub entry_back : (e : LogEntry) → IsTypedEntry e → is_sayable_entry e ≡ true → entry_in (entry_text e) ≡ Some e
unfolding entry_text entry_in header_in stated_in
entry_back (header f s t) typed h =
    let few = both_left (nat_le 1 f && nat_le f number_most) (is_time_if_any t) h in
    let some = leb-true 1 f (both_left (nat_le 1 f) (nat_le f number_most) few) in
    let most = leb-true f number_most (both_right (nat_le 1 f) (nat_le f number_most) few) in
    let time = both_right (nat_le 1 f && nat_le f number_most) (is_time_if_any t) h in
    ap entry_in (append_assoc (codes "LOG 2 ") (summed_text f s) (time_text t))
    ∙ ap (λ (o : Option (ℕ × (ℕ × List ℕ))). o >>= λ r. header_of r.0 r.1.0 r.1.1)
    (summed_back f s (time_text t) (omega arith) typed)
    ∙ header_back f s t some time
entry_back (call c) typed h = call_apart c ∙ ap (λ (o : Option LogCall). o >>= λ c. Some (call c)) (call_back c typed h)
entry_back (stated n s shown) typed h =
    ap entry_in (append_assoc (codes "S ") (summed_text n s) (codes " " ++ shown))
    ∙ ap (λ (o : Option (ℕ × (ℕ × List ℕ))). o >>= λ r. stated_of r.0 r.1.0 r.1.1)
    (summed_back n s (codes " " ++ shown) typed.0 typed.1)
    ∙ stated_back n s shown h
