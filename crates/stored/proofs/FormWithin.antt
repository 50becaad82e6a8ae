-- How many bytes a form takes at most, legal or not, since each of its counts is a byte (RULES, Stored form): 68,866.
-- So that many bytes and one say of a file what all of it says.
--   ReadWithin k P r s   r reads of s a P, of at most k bytes, whatever more follows
--   Within k P r         so it does where k bytes are there
-- Assumes nothing.
use Rattle.std.proofs.Common.{◌≡◌, ℕ, zero, suc, ◌+◌, ◌*◌, ◌/◌, ◌<◌, ◌≤◌, Bool, true, false, List, [], ◌∷◌, ◌++◌}
use Rattle.std.proofs.Common.{length, take, drop, Some, refl, ap, ◌∙◌, sym, arith, if◌then◌else◌, nat_lt, ◌==◌, not}
use Rattle.std.proofs.Common.{length-append, length-drop, length-take-le, le-ltb, ltb-true, ltb-false, take-append-drop}
use Rattle.std.proofs.lemmas.Grind.{common_steps}
use Rattle.std.proofs.lemmas.List.{take_all, take-append-le, drop-append-le}
use Rattle.text.proofs.Choices.{if_no}
use Rattle.text.specs.Outcomes.{refused_as}
use Rattle.stored.specs.declared.error.LoadError.TheVariants.{OtherVersion, LeftOver}
use Rattle.record.specs.Record.{blank}
use Rattle.stored.specs.Sections.{Field, field_and_then, ◌giving◌, given, byte, bytes, number, section_of, text, texts}
use Rattle.stored.specs.Sections.{lamps_seconds}
use Rattle.stored.specs.Form.{form_version, old_version, FormSaid, marks_part, class_part, form}
use Rattle.stored.specs.Loading.{is_other_version, loaded_from}
use Rattle.stored.proofs.Fields.{Bytes, rest_bytes}

pub record ReadWithin {A : Type 0} (k : ℕ) (P : A → Type 0) (r : Field A) (s : List ℕ) : Type 0 where
  pub value : A
  pub rest : List ℕ
  pub read : r s ≡ Some (value, rest)
  pub more : (t : List ℕ) → r (s ++ t) ≡ Some (value, rest ++ t)
  pub few : length s ≤ k + length rest
  pub bytes : Bytes rest
  pub such : P value

pub record Within {A : Type 0} (k : ℕ) (P : A → Type 0) (r : Field A) : Type 0 where
  pub reads : (s : List ℕ) → Bytes s → k ≤ length s → ReadWithin k P r s

abbrev Any : {A : Type 0} → A → Type 0
Any x = Unit {0}

-- of fewer bytes, and of a stronger fact
within_more : {A : Type 0} {P Q : A → Type 0} {r : Field A} (k l : ℕ) → k ≤ l → ((x : A) → P x → Q x)
    → Within k P r → Within l Q r
within_more k l h weaker w = grind arith

within_given : {A : Type 0} {P : A → Type 0} (k : ℕ) (x : A) → P x → Within k P (given x)
within_given k x p = grind arith

within_then : {A B : Type 0} {P : A → Type 0} {Q : B → Type 0} {r : Field A} {f : A → Field B} (k l : ℕ)
    → Within k P r → ((x : A) → P x → Within l Q (f x)) → Within (k + l) Q (r giving f)
within_then {f = f} k l a b = record {
  reads = λ s bs long.
      let x = a.reads s bs (omega arith) in
      let y = (b x.value x.such).reads x.rest x.bytes (omega (arith, x.few)) in
      record {
        value = y.value;
        rest = y.rest;
        read = ap (field_and_then f) x.read ∙ y.read;
        more = λ t. ap (field_and_then f) (x.more t) ∙ y.more t;
        few = omega (arith, x.few, y.few);
        bytes = y.bytes;
        such = y.such;
      };
}

within_if : {A : Type 0} {P : A → Type 0} {k : ℕ} {r q : Field A} (c : Bool) → Within k P r → Within k P q
    → Within k P (if c then r else q)
within_if c h g = grind arith

within_byte : Within 1 (λ n. n < 256) byte
unfolding byte
within_byte = record { reads = by }
  where
    by : (s : List ℕ) → Bytes s → 1 ≤ length s → ReadWithin 1 (λ n. n < 256) byte s
    by [] b long = absurd (omega arith)
    by (n ∷ s) b long = record {
      value = n;
      rest = s;
      read = refl;
      more = λ t. refl;
      few = omega arith;
      bytes = rest_bytes (n ∷ []) s refl b;
      such = b 0 (omega arith);
    }

within_bytes : (n : ℕ) → Within n (λ t. length t ≡ n) (bytes n)
unfolding bytes
within_bytes n = record {
  reads = λ s b long. record {
    value = take n s;
    rest = drop n s;
    read = if_no _ _ (le-ltb (length s) n long);
    more = λ t. grind (arith, common_steps, take-append-le n s t, drop-append-le n s t, length-append s t);
    few = omega (arith, length-drop n s);
    bytes = rest_bytes (take n s) (drop n s) (sym (take-append-drop n s)) b;
    such = length-take-le n s long;
  };
}

within_number : (n : ℕ) → Within n Any (number n)
unfolding number
within_number n =
    within_more (n + 0) n (omega arith) (λ x p. p) (within_then n 0 (within_bytes n) (λ s p. within_given 0 _ tt))

within_section : (width : ℕ) → ((n : ℕ) → n < 256 → width * n ≤ width * 255)
    → Within (1 + width * 255) (λ t. length t ≤ width * 255) (section_of width)
unfolding section_of
within_section width wide =
    within_then 1 (width * 255) within_byte
    (λ n h. within_more (width * n) (width * 255) (wide n h) (λ t e. omega (arith, wide n h, e))
    (within_bytes (width * n)))

within_text : Within 256 (λ t. length t ≤ 255) text
within_text = within_section 1 (λ n h. omega arith)

within_texts : (n : ℕ) → Within (256 * n) Any (texts n)
unfolding texts
within_texts zero = within_given 0 [] tt
within_texts (suc n) =
    within_more (256 + (256 * n + 0)) (256 * suc n) (omega arith) (λ x p. p)
    (within_then 256 (256 * n + 0) within_text
    (λ t p. within_then (256 * n) 0 (within_texts n) (λ ts q. within_given 0 (t ∷ ts) tt)))

-- ---- the parts: so many inputs as one count can tell, whatever is said after them

abbrev Few : FormSaid → Type 0
Few y = length y.settings.inputs ≤ 510

within_part : {A : Type 0} (k : ℕ) {P : A → Type 0} {r : Field A} (g : A → FormSaid) → Within k P r
    → ((x : A) → P x → Few (g x)) → Within k Few (r giving λ x. given (g x))
within_part k g w few =
    within_more (k + 0) k (omega arith) (λ x p. p) (within_then k 0 w (λ x p. within_given 0 (g x) (few x p)))

within_text_part : (g : List ℕ → FormSaid) → ((s : List ℕ) → Few (g s)) → Within 256 Few (text giving λ s. given (g s))
within_text_part g few = within_part 256 g within_text (λ s p. few s)

within_number_part : (g : ℕ → FormSaid) → ((n : ℕ) → Few (g n)) → Within 2 Few (number 2 giving λ n. given (g n))
within_number_part g few = within_part 2 g (within_number 2) (λ n p. few n)

within_lamps : Within 1021 Any lamps_seconds.read
within_lamps =
    within_more (1021 + 0) 1021 (omega arith) (λ x p. p)
    (within_then 1021 0 (within_section 4 (λ n h. omega arith)) (λ s p. within_given 0 _ tt))

within_marks : (v : ℕ) (y : FormSaid) → Few y → Within 256 Few ((marks_part v).read y)
within_marks v y few =
    within_if (not (v == old_version))
    (within_then 256 0 (within_text_part _ (λ s. few)) (λ z p. within_given 0 z p)) (within_given 256 y few)

within_class : (v : ℕ) (y : FormSaid) → Few y → Within 65793 Few ((class_part v).read y)
within_class v y few =
    let n = length y.settings.inputs / 2 in
    within_if (v == form_version)
    (within_then 1 65792 (within_part 1 _ within_byte (λ k p. few))
    (λ z p. within_then 65792 0
    (within_if (z.settings.class == 2)
    (within_then 256 65536 (within_text_part _ (λ s. p))
    (λ a p. within_then 256 65280 (within_text_part _ (λ s. p))
    (λ b p. within_then 65280 0
    (within_part 65280 _
    (within_more (256 * (length b.settings.inputs / 2)) 65280 (omega (arith, p)) (λ x q. q) (within_texts _))
    (λ ts q. p))
    (λ c p. within_given 0 c p))))
    (within_given 65792 z p))
    (λ z p. within_given 0 z p)))
    (within_given 65793 y few)

pub within_form : Within 68866 Few form
unfolding form
within_form =
    within_then 1 68865 within_byte
    (λ v p. within_then 256 68609 (within_text_part _ (λ s. omega arith))
    (λ a p. within_then 256 68353 (within_text_part _ (λ s. p))
    (λ b p. within_then 256 68097 (within_text_part _ (λ s. p))
    (λ c p. within_then 256 67841 (within_text_part _ (λ s. p))
    (λ d p. within_then 256 67585 (within_text_part _ (λ s. p))
    (λ e p. within_then 511 67074
    (within_part 511 _ (within_section 2 (λ n h. omega arith)) (λ s q. omega (arith, q)))
    (λ f p. within_then 1021 66053 (within_part 1021 _ within_lamps (λ s q. p))
    (λ g p. within_then 256 65797 (within_marks v g p)
    (λ h p. within_then 2 65795 (within_number_part _ (λ n. p))
    (λ i p. within_then 2 65793 (within_number_part _ (λ n. p))
    (λ j p. within_then 65793 0 (within_class v j p) (λ k p. within_given 0 k p))))))))))))

-- what has bytes left over is told so, whatever they are
left_over_told : (s : List ℕ) (f : FormSaid) (x : ℕ) (xs : List ℕ) → form s ≡ Some (f, x ∷ xs)
    → loaded_from s ≡ refused_as blank (if is_other_version s then OtherVersion else LeftOver)
unfolding loaded_from
left_over_told s f x xs e = grind arith

-- as many bytes as no form takes are loaded as they are with any more after them
pub loaded_from-append : (s t : List ℕ) → Bytes s → 68867 ≤ length s → loaded_from (s ++ t) ≡ loaded_from s
loaded_from-append [] t b long = absurd (omega arith)
loaded_from-append (v ∷ s) t b long = by r.rest r.read (r.more t) (omega (arith, r.few))
  where
    r : ReadWithin 68866 Few form (v ∷ s)
    r = within_form.reads (v ∷ s) b (omega arith)

    by : (rest : List ℕ) → form (v ∷ s) ≡ Some (r.value, rest) → form (v ∷ (s ++ t)) ≡ Some (r.value, rest ++ t)
        → 1 ≤ length rest → loaded_from (v ∷ (s ++ t)) ≡ loaded_from (v ∷ s)
    by [] e more some = absurd (omega arith)
    by (x ∷ xs) e more some =
        left_over_told (v ∷ (s ++ t)) r.value x (xs ++ t) more
        ∙ sym (left_over_told (v ∷ s) r.value x xs e)

pub loaded_from-take : (s : List ℕ) → Bytes (take 68867 s) → loaded_from (take 68867 s) ≡ loaded_from s
loaded_from-take s b = by (nat_lt (length s) 68867) refl
  where
    by : (c : Bool) → nat_lt (length s) 68867 ≡ c → loaded_from (take 68867 s) ≡ loaded_from s
    by true e = ap loaded_from (take_all 68867 s (omega (arith, ltb-true (length s) 68867 e)))
    by false e =
        sym (loaded_from-append (take 68867 s) (drop 68867 s) b
        (omega (arith, length-take-le 68867 s (ltb-false (length s) 68867 e))))
        ∙ ap loaded_from (take-append-drop 68867 s)
