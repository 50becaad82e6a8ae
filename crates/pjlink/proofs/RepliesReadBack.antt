-- A reply built from a class, a body and a parameter has the form of that class and of no other, and gives body and
-- parameter back; it is not the ERRA line. Any reply of the form has its head and its CR.
-- Assumes nothing.
use Rattle.std.specs.List.{list_all}
use Rattle.std.proofs.Common.{ℕ, ◌+◌, ◌-◌, ◌≤◌, ◌≡◌, refl, sym, ap, ◌∙◌, Bool, true, false, ◌&&◌, List, [], ◌∷◌, ◌++◌}
use Rattle.std.proofs.Common.{arith, length, take, length-append, nat_le, ◌==◌, leb-true, le-leb, eq-eqb, ne_eqb, codes}
use Rattle.std.proofs.Math.Seq.{take-append_seam, get_or-append_seam}
use Prim.Native.Char.{code}
use Rattle.text.specs.Words.{◌is◌}
use Rattle.text.specs.Scans.{is_same_by, itself}
use Rattle.text.proofs.Choices.{both_left, both_right}
use Rattle.text.proofs.Scanning.{no_more}
use Rattle.text.proofs.Sameness.{same_is}
use Rattle.words.specs.Bytes.{◌at◌, is_alnum, is_cr_free}
use Rattle.pjlink.specs.Commands.{class_digit}
use Rattle.pjlink.specs.Forms.{is_headed, head_body, reply_most, is_reply_form, reply_parameter, reply_line, erra_line}
use Rattle.pjlink.specs.Forms.{IsLetters}
use Rattle.pjlink.specs.Said.{parameter_most}

module _ (a b c d : ℕ) (letters : list_all is_alnum (a ∷ b ∷ c ∷ d ∷ []) ≡ true) where
  -- whatever the class, and whatever follows the separator
  pub headed : (h m : ℕ) (rest : List ℕ) → is_headed m (codes "%" ++ (h ∷ a ∷ b ∷ c ∷ d ∷ []) ++ (m ∷ rest)) ≡ true
  headed h m rest =
      let after_a = both_right (is_alnum a) _ letters in
      let after_b = both_right (is_alnum b) _ after_a in
      let after_c = both_right (is_alnum c) _ after_b in
      simp (
        both_left (is_alnum a) _ letters,
        both_left (is_alnum b) _ after_a,
        both_left (is_alnum c) _ after_b,
        both_left (is_alnum d) _ after_c,
        eq-eqb m m refl,
      )

  module _ (h : ℕ) (p : List ℕ) where
    abbrev line : List ℕ
    line = reply_line h (a ∷ b ∷ c ∷ d ∷ []) p

    line_long : length line ≡ length p + 8
    line_long = omega (arith, length-append p (codes "\r"))

    line_parameter : reply_parameter line ≡ p
    line_parameter =
        let n : length line - 8 ≡ length p = omega (arith, line_long) in
        ap (λ (k : ℕ). take k (p ++ codes "\r")) n ∙ take-append_seam p (codes "\r")

    ends : line at (length line - 1) ≡ code "\r"
    ends =
        let before = codes "%" ++ (h ∷ a ∷ b ∷ c ∷ d ∷ []) ++ codes "=" ++ p in
        let n : length line - 1 ≡ length before = omega (arith, length-append p (codes "\r")) in
        ap (λ (k : ℕ). line at k) n ∙ get_or-append_seam before (code "\r") [] 0

    by_class : length p ≤ parameter_most → is_cr_free p ≡ true → (k : ℕ) → is_reply_form k line ≡ (h == class_digit k)
    unfolding is_reply_form
    by_class short plain k =
        let from = le-leb 8 (length line) (omega (arith, line_long)) in
        let most = le-leb (length line) reply_most (omega (arith, line_long)) in
        let head = headed h (code "=") (p ++ codes "\r") in
        let last = eq-eqb _ (code "\r") ends in
        let rest = ap is_cr_free line_parameter ∙ plain in
        (λ i. from i && most i && head i && h == class_digit k && last i && rest i)
        ∙ simp no_more

by_four : (P : List ℕ → Type 0) (s : List ℕ) → length s ≡ 4 → ((a b c d : ℕ) → P (a ∷ b ∷ c ∷ d ∷ [])) → P s
by_four P (a ∷ b ∷ c ∷ d ∷ []) four p = p a b c d
by_four P [] four p = absurd (omega arith)
by_four P (a ∷ []) four p = absurd (omega arith)
by_four P (a ∷ b ∷ []) four p = absurd (omega arith)
by_four P (a ∷ b ∷ c ∷ []) four p = absurd (omega arith)
by_four P (a ∷ b ∷ c ∷ d ∷ e ∷ s) four p = absurd (omega arith)

-- what the line of a reply shows: its form is of its class alone
pub record ReplyShows (h : ℕ) (s p : List ℕ) : Type 0 where
  pub form : (k : ℕ) → is_reply_form k (reply_line h s p) ≡ (h == class_digit k)
  pub body : head_body (reply_line h s p) ≡ s
  pub parameter : reply_parameter (reply_line h s p) ≡ p
  pub not_erra : is_same_by itself (reply_line h s p) erra_line ≡ false

module _ {s : List ℕ} (letters : IsLetters s) where
  pub reply_shows : (h : ℕ) (p : List ℕ) → length p ≤ parameter_most → is_cr_free p ≡ true → ReplyShows h s p
  reply_shows h p short plain =
      by_four (λ (s : List ℕ). list_all is_alnum s ≡ true → ReplyShows h s p) s letters.four
      (λ a b c d each. record {
        form = by_class a b c d each h p short plain;
        body = refl;
        parameter = line_parameter a b c d each h p;
        not_erra = refl;
      })
      letters.each

  pub reply_form : (k : ℕ) (p : List ℕ) → length p ≤ parameter_most → is_cr_free p ≡ true
      → is_reply_form k (reply_line (class_digit k) s p) ≡ true
  reply_form k p short plain =
      (reply_shows (class_digit k) p short plain).form k ∙ eq-eqb (class_digit k) (class_digit k) refl

  -- a reply of one class is no reply of another
  pub reply_other_class : (j k : ℕ) (p : List ℕ) → (j ≡ k → ⊥) → length p ≤ parameter_most → is_cr_free p ≡ true
      → is_reply_form k (reply_line (class_digit j) s p) ≡ false
  reply_other_class j k p other short plain =
      (reply_shows (class_digit j) p short plain).form k
      ∙ ne_eqb (class_digit j) (class_digit k) (λ e. let same : j ≡ k = omega arith in other same)

pub reply_long : (k : ℕ) (l : List ℕ) → is_reply_form k l ≡ true → 8 ≤ length l
unfolding is_reply_form
reply_long k l e =
    let enough = nat_le 8 (length l) in
    let short = enough && nat_le (length l) reply_most in
    let headed = short && is_headed (code "=") l in
    let classed = headed && (l at 1) == class_digit k in
    let ended = classed && l at (length l - 1) is "\r" in
    leb-true 8 (length l)
    (both_left enough _ (both_left short _ (both_left headed _ (both_left classed _ (both_left ended _ e)))))

-- no reply of the form is the ERRA line
pub form_not_erra : (k : ℕ) (l : List ℕ) → is_reply_form k l ≡ true → is_same_by itself l erra_line ≡ false
unfolding is_reply_form
form_not_erra k l formed = by (is_same_by itself l erra_line) refl
  where
    by : (t : Bool) → is_same_by itself l erra_line ≡ t → t ≡ false
    by true e = sym formed ∙ ap (is_reply_form k) (same_is l erra_line e)
    by false e = refl
