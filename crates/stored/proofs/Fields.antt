-- The laws of the fields of a stored form (RULES, Stored form), each in both directions: what is written of a value is
-- its form; what was read begins with the form of the value.
--   IsForm r x s         to the reader r the bytes s are the form of x: read so whatever follows, cut short where cut
--   Bytes s              each element of s is a byte
--   Begins s a rest      if s are bytes, they are a, and the rest after it
-- Assumes nothing.
use Rattle.std.proofs.Common.{ℕ, zero, suc, ◌+◌, ◌-◌, ◌*◌, ◌/◌, ◌^◌, ◌<◌, ◌≡◌, Bool, true, false, if◌then◌else◌, List}
use Rattle.std.proofs.Common.{[], ◌∷◌, ◌++◌, length, take, drop, slice_index_or, Option, Some, None, refl, sym, ap}
use Rattle.std.proofs.Common.{◌∙◌, arith, append_assoc, length-append, length-take-le, take-append-drop, take_at}
use Rattle.std.proofs.Common.{drop_at, length-drop}
use Rattle.std.proofs.lemmas.Grind.{common_steps}
use Rattle.std.proofs.lemmas.List.{take-append-le, get_or-append-add}
use Rattle.std.proofs.Math.Seq.{take-append-add}
use Rattle.std.specs.List.{list_all}
use Rattle.std.specs.Simd.{first_chunks}
use Rattle.record.specs.Rules.{is_at_most, is_lamp}
use Rattle.text.proofs.Scanning.{list_all_at}
use Rattle.text.specs.InTurn.{each_in_turn}
use Rattle.text.specs.Scans.{itself}
use Rattle.text.proofs.Bases.{Digits}
use Rattle.numbers.specs.HighestFirst.{highest_first, number_in}
use Rattle.numbers.proofs.HighestFirst.{length-highest_first, highest_back, highest_one_form}
use Rattle.stored.specs.Sections.{section, text_section, texts_bytes, seconds_bytes, seconds_in, lamps_seconds}
use Rattle.stored.specs.Sections.{Field, ◌giving◌, given, byte, bytes, number, section_of, text, texts}
use Rattle.text.proofs.InTurn.{length-each_in_turn}
use Rattle.record.specs.Limits.{lamps_most}
use Rattle.record.specs.Record.{in_room}
use Rattle.text.proofs.RoomsFilled.{one_copied}
use Rattle.record.proofs.Kept.{filled_take}

-- ---- written

pub record IsForm {A : Type 0} (r : Field A) (x : A) (s : List ℕ) : Type 0 where
  pub again : (t : List ℕ) → r (s ++ t) ≡ Some (x, t)
  pub cut : (k : ℕ) → k < length s → r (take k s) ≡ None

pub given_form : {A : Type 0} (x : A) → IsForm (given x) x []
given_form x = record { again = λ t. refl; cut = λ k l. absurd (omega arith) }

module _ {A B : Type 0} {r : Field A} {x : A} {s : List ℕ} (p : IsForm r x s) where
  -- one field after the other
  pub form_then : (f : A → Field B) {y : B} {t : List ℕ} → IsForm (f x) y t → IsForm (r giving f) y (s ++ t)
  form_then f {y} {t} q = record {
    again = λ u. grind (arith, append_assoc s t u, p.again (t ++ u), q.again u);
    cut = λ k l.
        let left = k - length s in
        grind (
          arith,
          take-append-le k s t,
          p.cut k,
          take-append-add s t left,
          p.again (take left t),
          q.cut left,
          length-append s t,
        );
  }

  -- and what is made of it
  pub form_as : (g : A → B) {y : B} → g x ≡ y → IsForm (r giving λ z. given (g z)) y s
  form_as g e = record { again = λ t. grind (arith, p.again t, e); cut = λ k l. grind (arith, p.cut k l) }

-- one of two fields
pub if_form : {A : Type 0} (t : Bool) {r q : Field A} {x : A} {s u : List ℕ} → (t ≡ true → IsForm r x s)
    → (t ≡ false → IsForm q x u) → IsForm (if t then r else q) x (if t then s else u)
if_form t h g = grind arith

pub byte_form : (b : ℕ) → IsForm byte b (b ∷ [])
unfolding byte
byte_form b = record { again = λ t. refl; cut = λ k l. grind (arith, common_steps) }

pub bytes_form : (s : List ℕ) {n : ℕ} → length s ≡ n → IsForm (bytes n) s s
unfolding bytes
bytes_form s {n} e = record {
  again = λ t. grind (arith, common_steps, length-append s t);
  cut = λ k l. grind (arith, length-take-le k s);
}

pub section_form : (width n : ℕ) (s : List ℕ) → length s ≡ width * n → IsForm (section_of width) s (section n s)
unfolding section_of
section_form width n s e = form_then (byte_form n) _ (bytes_form s e)

pub text_form : (s : List ℕ) → IsForm text s (text_section s)
text_form s = section_form 1 (length s) s (omega arith)

pub number_form : (n x : ℕ) → x < 256 ^ n → IsForm (number n) x (highest_first n x)
unfolding number
number_form n x h = form_as (bytes_form (highest_first n x) (length-highest_first n x)) _ (highest_back n x h)

pub texts_form : (ts : List (List ℕ)) → IsForm (texts (length ts)) ts (texts_bytes ts)
unfolding texts texts_bytes
texts_form [] = given_form []
texts_form (t ∷ ts) = form_then (text_form t) _ (form_as (texts_form ts) _ refl)

-- ---- read

abbrev pub Bytes : List ℕ → Type 0
Bytes s = Digits 256 itself s

pub bytes_all : (s : List ℕ) → list_all (is_at_most 255) s ≡ true → Bytes s
bytes_all s h i l = grind (arith, list_all_at (is_at_most 255) s 0 h i l)

module _ {s : List ℕ} (a rest : List ℕ) (e : s ≡ a ++ rest) (b : Bytes s) where
  pub front_bytes : Bytes a
  front_bytes i l = grind (arith, common_steps, e, b i)

  pub rest_bytes : Bytes rest
  rest_bytes i l = grind (arith, e, b (length a + i), get_or-append-add a rest i 0, length-append a rest)

-- what reads one field after another read each of them, and left what the next one read
pub reading : {A B : Type 0} (r : Field A) {f : A → Field B} {s : List ℕ} {y : B × List ℕ} {G : Type 0}
    → (r giving f) s ≡ Some y → ((x : A) (rest : List ℕ) → r s ≡ Some (x, rest) → f x rest ≡ Some y → G) → G
reading {A} {B} r {f} {s} {y} {G} e next = grind arith

-- and of what it read makes what is said
pub reading_part : {A B C : Type 0} (r : Field A) {g : A → B} (f : B → Field C) {s : List ℕ} {y : C × List ℕ}
    {G : Type 0}
    → ((r giving λ x. given (g x)) giving λ z. f z) s ≡ Some y
    → ((x : A) (rest : List ℕ) → r s ≡ Some (x, rest) → f (g x) rest ≡ Some y → G) → G
reading_part {A} {B} {C} r {g} f {s} {y} {G} e next = grind arith

-- what holds of what was given holds of what was read
pub ended : {A : Type 0} (P : A → List ℕ → Type 0) {x y : A} {s rest : List ℕ}
    → ◌≡◌ {A = Option (A × List ℕ)} (Some (x, s)) (Some (y, rest)) → P x s → P y rest
ended {A} P {x} {y} {s} {rest} e h = grind arith

pub record Begins (s a rest : List ℕ) : Type 0 where
  pub joined : Bytes s → s ≡ a ++ rest

pub begins_then : {s a t b rest : List ℕ} → Begins s a t → Begins t b rest → Begins s (a ++ b) rest
begins_then {s} {a} {t} {b} {rest} p q = record {
  joined = λ c.
      let e = p.joined c in
      grind (arith, e, q.joined (rest_bytes a t e c), append_assoc a b rest);
}

pub begins_none : (s : List ℕ) → Begins s [] s
begins_none s = record { joined = λ b. refl }

pub byte_begins : {s : List ℕ} {x : ℕ} {rest : List ℕ} → byte s ≡ Some (x, rest) → Begins s (x ∷ []) rest
unfolding byte
byte_begins {s = []} e = absurd (cc)
byte_begins {s = b ∷ s} e = record { joined = λ c. grind (arith, e) }

pub record Cut (n : ℕ) (s t rest : List ℕ) : Type 0 where
  pub spelled : s ≡ t ++ rest
  pub long : length t ≡ n

bytes_cut : (n : ℕ) (s t rest : List ℕ) → bytes n s ≡ Some (t, rest) → Cut n s t rest
unfolding bytes
bytes_cut n s t rest e = grind (arith, take-append-drop, length-take-le)

pub record Counted (width : ℕ) (s t rest : List ℕ) : Type 0 where
  pub count : ℕ
  pub spelled : s ≡ count ∷ (t ++ rest)
  pub long : length t ≡ width * count

pub section_counted : (width : ℕ) (s t rest : List ℕ) → section_of width s ≡ Some (t, rest) → Counted width s t rest
unfolding section_of byte
section_counted width [] t rest e = absurd (cc)
section_counted width (n ∷ s) t rest e =
    let c = bytes_cut (width * n) s t rest e in
    record { count = n; spelled = ap (λ (l : List ℕ). n ∷ l) c.spelled; long = c.long }

pub text_spelled : {s t rest : List ℕ} → text s ≡ Some (t, rest) → s ≡ text_section t ++ rest
text_spelled {s} {t} {rest} e = grind (arith, section_counted 1 s t rest e)

pub text_begins : {s t rest : List ℕ} → text s ≡ Some (t, rest) → Begins s (text_section t) rest
text_begins e = record { joined = λ b. text_spelled e }

pub inputs_begin : {s t rest : List ℕ} → section_of 2 s ≡ Some (t, rest) → Begins s (section (length t / 2) t) rest
inputs_begin {s} {t} {rest} e = record { joined = λ b. grind (arith, section_counted 2 s t rest e) }

pub number_begins : (n : ℕ) {s : List ℕ} {x : ℕ} {rest : List ℕ} → number n s ≡ Some (x, rest)
    → Begins s (highest_first n x) rest
unfolding number
number_begins n {s} e =
    reading (bytes n) e
    (λ y left h k.
    let c = bytes_cut n s y left h in
    ended (λ x rest. Begins s (highest_first n x) rest) k
    (record {
      joined = λ b.
          c.spelled
          ∙ ap (λ (l : List ℕ). l ++ left)
          (sym (highest_one_form y (front_bytes y left c.spelled b))
          ∙ ap (λ (k : ℕ). highest_first k (number_in y)) c.long);
    }))

pub texts_begin : (n : ℕ) {s : List ℕ} {ts : List (List ℕ)} {rest : List ℕ} → texts n s ≡ Some (ts, rest)
    → Begins s (texts_bytes ts) rest
unfolding texts texts_bytes
texts_begin zero {s} e = grind arith
texts_begin (suc n) {s} e =
    reading text e
    (λ t s1 r1 e1. reading (texts n) e1
    (λ others s2 r2 e2. ended (λ ts rest. Begins s (each_in_turn text_section ts) rest) e2
    (begins_then (text_begins r1) (texts_begin n r2))))

-- ---- the lamps' seconds, four bytes each

pub seconds_long : (xs : List ℕ) → length (seconds_bytes xs) ≡ 4 * length xs
unfolding seconds_bytes
seconds_long = length-each_in_turn (highest_first 4) 4 (length-highest_first 4)

pub length-seconds_in : (n : ℕ) (s : List ℕ) → length (seconds_in n s) ≡ n
unfolding seconds_in
length-seconds_in zero s = refl
length-seconds_in (suc n) s = grind (arith, length-seconds_in n (drop 4 s))

pub read_at : (n : ℕ) (s : List ℕ) (i : ℕ) → i < n →
    slice_index_or (seconds_in n s) i 0 ≡ number_in (slice_index_or (first_chunks 4 n s) i [])
unfolding seconds_in
read_at (suc n) s (suc i) h = read_at n (drop 4 s) i (omega arith)
read_at (suc n) s zero h = refl
read_at zero s i h = absurd (omega arith)

pub seconds_back : (xs : List ℕ) → list_all is_lamp xs ≡ true → seconds_in (length xs) (seconds_bytes xs) ≡ xs
unfolding seconds_in seconds_bytes
seconds_back [] h = refl
seconds_back (x ∷ xs) h =
    let four = highest_first 4 x in
    let rest = each_in_turn (highest_first 4) xs in
    let long = length-highest_first 4 x in
    grind (arith, h, take_at four rest 4 long, drop_at four rest 4 long, highest_back 4 x, seconds_back xs)

pub seconds_again : (n : ℕ) (s : List ℕ) → length s ≡ 4 * n → Bytes s → seconds_bytes (seconds_in n s) ≡ s
unfolding seconds_in seconds_bytes
seconds_again zero [] l b = refl
seconds_again zero (x ∷ s) l b = absurd (omega arith)
seconds_again (suc n) s l b =
    let parts : s ≡ take 4 s ++ drop 4 s = sym (take-append-drop 4 s) in
    let front = highest_one_form (take 4 s) (front_bytes (take 4 s) (drop 4 s) parts b) in
    let rest = seconds_again n (drop 4 s) (omega (arith, length-drop 4 s)) (rest_bytes (take 4 s) (drop 4 s) parts b) in
    grind (arith, parts, front, rest, length-take-le 4 s)

-- as a form has them
pub lamps_form : (xs : List ℕ) → list_all is_lamp xs ≡ true
    → IsForm lamps_seconds.read xs (section (length xs) (seconds_bytes xs))
lamps_form xs h =
    let many : length (seconds_bytes xs) / 4 ≡ length xs = omega (arith, seconds_long xs) in
    form_as (section_form 4 (length xs) (seconds_bytes xs) (seconds_long xs)) _
    (ap (λ (k : ℕ). seconds_in k (seconds_bytes xs)) many ∙ seconds_back xs h)

pub lamps_begin : {s xs rest : List ℕ} → lamps_seconds.read s ≡ Some (xs, rest)
    → Begins s (section (length xs) (seconds_bytes xs)) rest
lamps_begin {s} e =
    reading (section_of 4) e
    (λ raw left r h.
    let n = length raw / 4 in
    let c = section_counted 4 s raw left r in
    let many : c.count ≡ length (seconds_in n raw) = omega (arith, length-seconds_in n raw, c.long) in
    ended (λ xs rest. Begins s (section (length xs) (seconds_bytes xs)) rest) h
    (record {
      joined = λ b.
          let some : Bytes raw = rest_bytes (c.count ∷ []) raw refl (front_bytes (c.count ∷ raw) left c.spelled b) in
          c.spelled
          ∙ (λ j. many j ∷ (sym (seconds_again n raw (omega (arith, c.long)) some) j ++ left));
    }))

-- as the code reads them back from a room
pub room_read : (n : ℕ) (s : List ℕ) → take n (in_room lamps_most (seconds_in n s)) ≡ seconds_in n s
room_read n s =
    ap (λ (k : ℕ). take k (in_room lamps_most (seconds_in n s))) (sym (length-seconds_in n s))
    ∙ filled_take lamps_most (seconds_in n s)

pub ruleset seconds_copied = (one_copied, read_at, length-seconds_in)
