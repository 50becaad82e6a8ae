-- Numbers by their digits, in any base: n digits are worth less than the base's n-th power, the n lowest digits of a
-- number below that are worth this number, and no other n digits are.
--   Digits base worth s     each byte of s is worth less than the base
-- Assumes nothing.
use Rattle.std.specs.List.{list_all}
use Rattle.std.proofs.Common.{ℕ, zero, suc, ◌+◌, ◌*◌, ◌/◌, ◌%◌, ◌^◌, ◌<◌, ◌≡◌, refl, sym, ap, subst, ◌∙◌, Bool, true}
use Rattle.std.proofs.Common.{List, [], ◌∷◌, ◌++◌, pow-suc, suc-mul, mul-le-mul_right, zero-add, add-zero, zero-mul}
use Rattle.std.proofs.Common.{div-one, div-add-mod', mod-lt, mod-eq_of_lt, arith, length, slice_index_or, replicate}
use Rattle.std.proofs.Math.Nat.{pow-zero, div-eq_of_lt, div-div-eq-div-mul, mul-add-div_right, mul-add-mod_self_right}
use Rattle.text.specs.Scans.{itself}
use Rattle.text.specs.Bases.{value_in, low_digits}
use Rattle.text.proofs.Choices.{both}

module _ (base : ℕ) where
  -- one digit more, and taken away again
  pub value_grows : (v d p : ℕ) → v < p → d < base → v * base + d < p * base
  value_grows v d p h l = omega (arith, suc-mul v base, mul-le-mul_right base h)

  pub digit_over : (v d : ℕ) → d < base → (v * base + d) / base ≡ v
  digit_over v d h = mul-add-div_right (omega arith) v d ∙ ap (λ (q : ℕ). v + q) (div-eq_of_lt h) ∙ add-zero v

  pub digit_rest : (v d : ℕ) → d < base → (v * base + d) % base ≡ d
  digit_rest v d h = mul-add-mod_self_right v base d ∙ mod-eq_of_lt h

module _ (base : ℕ) (worth : ℕ → ℕ) where
  pub value_in-append : (v : ℕ) (s t : List ℕ)
      → value_in base worth v (s ++ t) ≡ value_in base worth (value_in base worth v s) t
  value_in-append v [] t = refl
  value_in-append v (b ∷ s) t = value_in-append (v * base + worth b) s t

  -- zeros before the digits change nothing
  pub value_padded : (z : ℕ) → worth z ≡ 0 → (k : ℕ) (s : List ℕ)
      → value_in base worth 0 (replicate k z ++ s) ≡ value_in base worth 0 s
  value_padded z e zero s = refl
  value_padded z e (suc k) s =
      let none : 0 * base + worth z ≡ 0 = omega (arith, zero-mul base) in
      ap (λ (v : ℕ). value_in base worth v (replicate k z ++ s)) none ∙ value_padded z e k s

  abbrev pub Digits : List ℕ → Type 0
  Digits s = (i : ℕ) → i < length s → worth (slice_index_or s i 0) < base

  below_after : (i v : ℕ) (s : List ℕ) → Digits s → v < base ^ i → value_in base worth v s < base ^ (length s + i)
  below_after i v [] d h = rw zero-add h
  below_after i v (b ∷ s) d h =
      let grown = value_grows base v (worth b) (base ^ i) h (d 0 (omega arith)) in
      let more : v * base + worth b < base ^ suc i = rw pow-suc grown in
      let m : length s + suc i ≡ suc (length s) + i = omega arith in
      subst (λ (k : ℕ). value_in base worth (v * base + worth b) s < base ^ k) m
      (below_after (suc i) (v * base + worth b) s (λ i h. d (suc i) (omega arith)) more)

  pub value_below : (s : List ℕ) → Digits s → value_in base worth 0 s < base ^ length s
  value_below s d = rw add-zero at (below_after 0 0 s d (omega (arith, pow-zero base)))

  -- what stands before the digits s
  value_over : (v : ℕ) (s : List ℕ) → Digits s → value_in base worth v s / base ^ length s ≡ v
  value_over v [] d = ap (λ (p : ℕ). v / p) (pow-zero base) ∙ div-one v
  value_over v (b ∷ s) d =
      ap (λ (p : ℕ). value_in base worth (v * base + worth b) s / p) (pow-suc base (length s))
      ∙ sym (div-div-eq-div-mul _ (base ^ length s) base)
      ∙ ap (λ (q : ℕ). q / base) (value_over (v * base + worth b) s (λ i h. d (suc i) (omega arith)))
      ∙ digit_over base v (worth b) (d 0 (omega arith))

module _ (base : ℕ) (digit : ℕ → ℕ) where
  pub length-low_digits : (n x : ℕ) → length (low_digits base digit n x) ≡ n
  length-low_digits zero x = refl
  length-low_digits (suc n) x = ap suc (length-low_digits n x)

  pub list_all-low_digits : (f : ℕ → Bool) → 0 < base → ((d : ℕ) → d < base → f (digit d) ≡ true) → (n x : ℕ)
      → list_all f (low_digits base digit n x) ≡ true
  list_all-low_digits f b g zero x = refl
  list_all-low_digits f b g (suc n) x = both (g _ (mod-lt (x / base ^ n) b)) (list_all-low_digits f b g n x)

module _ (base : ℕ) (worth digit : ℕ → ℕ) where
  -- written and read: the digits of x after what stands before them
  value_again : 0 < base → ((d : ℕ) → d < base → worth (digit d) ≡ d) → (n x : ℕ)
      → value_in base worth (x / base ^ n) (low_digits base digit n x) ≡ x
  value_again b back zero x = ap (λ (p : ℕ). x / p) (pow-zero base) ∙ div-one x
  value_again b back (suc n) x =
      ap (λ (v : ℕ). value_in base worth v (low_digits base digit n x)) over ∙ value_again b back n x
    where
      over : x / base ^ suc n * base + worth (digit (x / base ^ n % base)) ≡ x / base ^ n
      over =
          (λ i. (ap (λ (p : ℕ). x / p) (pow-suc base n) ∙ sym (div-div-eq-div-mul x (base ^ n) base)) i * base
          + back (x / base ^ n % base) (mod-lt (x / base ^ n) b) i)
          ∙ div-add-mod' (x / base ^ n) base

  pub low_digits_back : 0 < base → ((d : ℕ) → d < base → worth (digit d) ≡ d) → (n x : ℕ) → x < base ^ n
      → value_in base worth 0 (low_digits base digit n x) ≡ x
  low_digits_back b back n x h =
      ap (λ (v : ℕ). value_in base worth v (low_digits base digit n x)) (sym (div-eq_of_lt h)) ∙ value_again b back n x

  -- read and written: no other digits are worth it
  pub low_digits_one_form : (v : ℕ) (s : List ℕ) → Digits base worth s
      → ((i : ℕ) → i < length s → digit (worth (slice_index_or s i 0)) ≡ slice_index_or s i 0)
      → low_digits base digit (length s) (value_in base worth v s) ≡ s
  low_digits_one_form v [] d e = refl
  low_digits_one_form v (b ∷ s) d e =
      let w : ℕ = v * base + worth b in
      let rest : Digits base worth s = λ i h. d (suc i) (omega arith) in
      let first : value_in base worth w s / base ^ length s % base ≡ worth b
      = ap (λ (q : ℕ). q % base) (value_over base worth w s rest) ∙ digit_rest base v (worth b) (d 0 (omega arith)) in
      (λ i. (ap digit first ∙ e 0 (omega arith)) i ∷ low_digits_one_form w s rest (λ i h. e (suc i) (omega arith)) i)

-- bytes as digits, the highest first
pub bytes_back : (n x : ℕ) → x < 256 ^ n → value_in 256 itself 0 (low_digits 256 itself n x) ≡ x
bytes_back = low_digits_back 256 itself itself (omega arith) (λ d h. refl)

pub bytes_one_form : (s : List ℕ) → Digits 256 itself s → low_digits 256 itself (length s) (value_in 256 itself 0 s) ≡ s
bytes_one_form s d = low_digits_one_form 256 itself itself 0 s d (λ i h. refl)
