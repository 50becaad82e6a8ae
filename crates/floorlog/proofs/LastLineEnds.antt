-- How the last line ends: before its LF stands a digit of a lamp's seconds, or the `s` of `lamps` where there is none.
-- So nothing that ends in any other way ends in it, and what is printed for a log ends so (RULES, Floor log: "after the
-- last, one line with power and lamp seconds"): for no log a line is printed last that ends in any other way.
--   EndsIn f l      l ends in a byte that passes the test f
-- Assumes nothing.
use Rattle.std.proofs.lemmas.Grind.{common_steps}
use Rattle.std.proofs.Common.{ℕ, suc, ◌-◌, ◌≡◌, refl, sym, ap, ◌∙◌, subst, Bool, true, false, ◌||◌, List, [], ◌∷◌, ◌++◌}
use Rattle.std.proofs.Common.{append_assoc, append-nil, arith, length, slice_index_or, length-append, take_all}
use Rattle.std.proofs.Common.{take-suc, codes}
use Rattle.std.proofs.lemmas.Bool.{false≢true}
use Rattle.std.proofs.Math.Seq.{get_or-append_seam}
use Prim.Native.Char.{code}
use Rattle.text.specs.Words.{◌is◌}
use Rattle.numbers.specs.Decimal.{digits, is_digit}
use Rattle.numbers.proofs.Digits.{digits_at_least_1, is_digit-slice_index_or}
use Rattle.record.specs.declared.types.Device.{Device}
use Rattle.history.specs.Shown.{lamps_shown}
use Rattle.floorlog.specs.LastLine.{last_line_of}
use Rattle.floorlog.specs.Playing.{replay_text}

record EndsIn (f : ℕ → Bool) (l : List ℕ) : Type 0 where
  before : List ℕ
  last : ℕ
  whole : l ≡ before ++ (last ∷ [])
  passes : f last ≡ true

module _ (f : ℕ → Bool) where
  ends_after : (x : List ℕ) {l : List ℕ} → EndsIn f l → EndsIn f (x ++ l)
  ends_after x e = record {
    before = x ++ e.before;
    last = e.last;
    whole = ap (λ (l : List ℕ). x ++ l) e.whole ∙ sym (append_assoc x e.before (e.last ∷ []));
    passes = e.passes;
  }

  ends_at : (l : List ℕ) (k : ℕ) → length l ≡ suc k → f (slice_index_or l k 0) ≡ true → EndsIn f l
  ends_at l k h p = grind (arith, common_steps, take_all, take-suc)

abbrev ends_last : ℕ → Bool
ends_last b = is_digit b || b is "s"

digits_end : (n : ℕ) → EndsIn ends_last (digits n)
digits_end n =
    let k : ℕ = length (digits n) - 1 in
    let h : length (digits n) ≡ suc k = omega (arith, digits_at_least_1 n) in
    ends_at ends_last (digits n) k h
    (ap (λ (t : Bool). t || slice_index_or (digits n) k 0 is "s") (is_digit-slice_index_or n k (omega arith)))

lamps_end : (a lamps : List ℕ) → EndsIn ends_last a → EndsIn ends_last (a ++ lamps_shown lamps)
lamps_end a [] e = subst (EndsIn ends_last) (sym (append-nil a)) e
lamps_end a (x ∷ lamps) e =
    let lamp : List ℕ = codes " " ++ digits x in
    subst (EndsIn ends_last) (append_assoc a lamp (lamps_shown lamps))
    (lamps_end (a ++ lamp) lamps (ends_after ends_last a (ends_after ends_last (codes " ") (digits_end x))))

same_end : (a b : List ℕ) (x y z : ℕ) → a ++ (x ∷ z ∷ []) ≡ b ++ (y ∷ z ∷ []) → x ≡ y
same_end a b x y z e =
    let long : length a ≡ length b = omega (arith, simp length-append at (ap length e)) in
    sym (get_or-append_seam a x (z ∷ []) 0)
    ∙ ap (λ (l : List ℕ). slice_index_or l (length a) 0) e
    ∙ ap (λ (n : ℕ). slice_index_or (b ++ (y ∷ z ∷ [])) n 0) long
    ∙ get_or-append_seam b y (z ∷ []) 0

module _ (before : List ℕ) (power : ℕ) (lamps : List ℕ) where
  abbrev shown : List ℕ
  shown = before ++ (codes "power " ++ digits power ++ codes " lamps" ++ lamps_shown lamps)

  shown_ends : EndsIn ends_last shown
  shown_ends =
      ends_after ends_last before
      (lamps_end (codes "power " ++ digits power ++ codes " lamps") lamps
      (ends_after ends_last (codes "power " ++ digits power)
      (record { before = codes " lamp"; last = code "s"; whole = refl; passes = refl })))

  pub last_line_ends : (other : List ℕ) (c : ℕ) → (is_digit c || c is "s") ≡ false
      → before ++ last_line_of power lamps ≡ other ++ (c ∷ codes "\n") → ⊥
  unfolding last_line_of
  last_line_ends other c h e =
      let s = shown_ends in
      let same : s.last ≡ c = same_end s.before other s.last c (code "\n")
      (sym (append_assoc s.before (s.last ∷ []) (codes "\n"))
      ∙ ap (λ (l : List ℕ). l ++ codes "\n") (sym s.whole)
      ∙ append_assoc before (codes "power " ++ digits power ++ codes " lamps" ++ lamps_shown lamps) (codes "\n")
      ∙ e) in
      false≢true (sym h ∙ ap ends_last (sym same) ∙ s.passes)

pub no_log_ends_in : (d : Device) (log other : List ℕ) (c : ℕ) → (is_digit c || c is "s") ≡ false
    → replay_text d log ≡ other ++ (c ∷ codes "\n") → ⊥
unfolding replay_text
no_log_ends_in d log other c h e = grind (arith, last_line_ends)
