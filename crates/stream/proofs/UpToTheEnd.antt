-- What is gathered of any bytes, whichever byte ends a line: none of them does and all are collected, or they start
-- with a line and the byte that ends it.
--   not_end end b     the byte b does not end a line
--   Cut end bs        where the first byte that ends a line stands in bs, if one does
--   Found bs g        how many bytes stand before it: no more than there are, with it one less; all where there is none
--   kept_in keep g    what is gathered, where `keep` puts the line into a larger record
-- Assumes nothing.
use Rattle.std.specs.List.{list_all}
use Rattle.std.proofs.Common.{ℕ, ◌+◌, ◌≤◌, ◌≡◌, refl, sym, ap, ◌∙◌, Bool, true, false, not, List, [], ◌∷◌, ◌++◌, arith}
use Rattle.std.proofs.Common.{length, length-append, ◌==◌, eqb-true, eq-eqb, if◌then◌else◌}
use Rattle.std.proofs.lemmas.Bool.{false≢true, eqb-false, not-true}
use mathlib.Core.List.{foldl}
use Rattle.text.proofs.Choices.{if_yes, if_no, if_by, both, both_left, both_right}
use Rattle.stream.specs.Machine.{UpTo, one_later, up_to}

abbrev pub not_end : ℕ → ℕ → Bool
not_end end b = not (b == end)

pub data Cut (end : ℕ) (bs : List ℕ) : Type 0 where
  plain : list_all (not_end end) bs ≡ true → Cut end bs
  line : (xs more : List ℕ) → bs ≡ xs ++ (end ∷ more) → list_all (not_end end) xs ≡ true → Cut end bs

one_more : (end b : ℕ) (bs : List ℕ) (t : Bool) → (b == end) ≡ t → Cut end bs → Cut end (b ∷ bs)
one_more end b bs true e k = line [] bs (ap (λ (x : ℕ). x ∷ bs) (eqb-true b end e)) refl
one_more end b bs false e (plain p) = plain (both (ap not e) p)
one_more end b bs false e (line xs more q p) =
    line (b ∷ xs) more (ap (λ (l : List ℕ). b ∷ l) q) (both (ap not e) p)

pub cut : (end : ℕ) (bs : List ℕ) → Cut end bs
cut end [] = plain refl
cut end (b ∷ bs) = one_more end b bs (b == end) refl (cut end bs)

pub record Found {L : Type 0} (bs : List ℕ) (g : UpTo L) : Type 0 where
  pub inside : g.before ≤ length bs
  pub came : g.ended ≡ true → g.before + 1 ≤ length bs
  pub all : g.ended ≡ false → g.before ≡ length bs

module _ {L : Type 0} (end : ℕ) (collect : L → ℕ → L) where
  abbrev other : (b : ℕ) (bs : List ℕ) → list_all (not_end end) (b ∷ bs) ≡ true → (b == end) ≡ false
  other b bs p = not-true (b == end) (both_left (not_end end b) (list_all (not_end end) bs) p)

  pub plain_up_to : (l : L) (bs : List ℕ) → list_all (not_end end) bs ≡ true
      → up_to end collect l bs ≡ record { line = foldl collect l bs; before = length bs; ended = false }
  unfolding up_to
  plain_up_to l [] p = refl
  plain_up_to l (b ∷ bs) p =
      if_no _ _ (other b bs p)
      ∙ ap one_later (plain_up_to (collect l b) bs (both_right (not_end end b) (list_all (not_end end) bs) p))

  pub up_to-append : (l : L) (xs more : List ℕ) → list_all (not_end end) xs ≡ true
      → up_to end collect l (xs ++ (end ∷ more))
      ≡ record { line = foldl collect l xs; before = length xs; ended = true }
  unfolding up_to
  up_to-append l [] more p = if_yes _ _ (eq-eqb end end refl)
  up_to-append l (x ∷ xs) more p =
      if_no _ _ (other x xs p)
      ∙ ap one_later (up_to-append (collect l x) xs more (both_right (not_end end x) (list_all (not_end end) xs) p))

  pub up_to_by : (l : L) (bs : List ℕ) (P : List ℕ → UpTo L → Type 0)
      → (list_all (not_end end) bs ≡ true
      → P bs (record { line = foldl collect l bs; before = length bs; ended = false }))
      → ((xs more : List ℕ) → list_all (not_end end) xs ≡ true
      → P (xs ++ (end ∷ more)) (record { line = foldl collect l xs; before = length xs; ended = true }))
      → P bs (up_to end collect l bs)
  up_to_by l bs P none found = grind (arith, cut, plain_up_to, up_to-append)

  pub found : (l : L) (bs : List ℕ) → Found bs (up_to end collect l bs)
  found l bs =
      up_to_by l bs Found
      (λ p. record { inside = omega arith; came = λ e. absurd (false≢true e); all = λ e. refl })
      (λ xs more p. record {
        inside = omega (arith, length-append xs (end ∷ more));
        came = λ e. omega (arith, length-append xs (end ∷ more));
        all = λ e. absurd (false≢true (sym e));
      })

  -- what each byte that is collected keeps
  pub up_to_keeps : (P : L → Type 0) → ((l : L) (b : ℕ) → (b ≡ end → ⊥) → P l → P (collect l b))
      → (l : L) (bs : List ℕ) → P l → P (up_to end collect l bs).line
  unfolding up_to
  up_to_keeps P keeps l [] p = p
  up_to_keeps P keeps l (b ∷ bs) p =
      if_by (λ (g : UpTo L). P g.line) (b == end) (λ e. p)
      (λ e. up_to_keeps P keeps (collect l b) bs (keeps l b (eqb-false b end e) p))

abbrev pub kept_in : {L M : Type 0} → (L → M) → UpTo L → UpTo M
kept_in keep g = record { line = keep g.line; before = g.before; ended = g.ended }

module _ {L M : Type 0} (end : ℕ) (collect : L → ℕ → L) (collects : M → ℕ → M) (keep : L → M)
    (is-collect : (l : L) (b : ℕ) → collects (keep l) b ≡ keep (collect l b)) where
  by_byte : (l : L) (b : ℕ) (bs : List ℕ) (t : Bool)
      → up_to end collects (collects (keep l) b) bs ≡ kept_in keep (up_to end collect (collect l b) bs)
      → (if t then record { line = keep l; before = 0; ended = true }
      else one_later (up_to end collects (collects (keep l) b) bs))
      ≡ kept_in keep
      (if t then record { line = l; before = 0; ended = true } else one_later (up_to end collect (collect l b) bs))
  by_byte l b bs t h = grind arith

  pub up_to_kept_in : (l : L) (bs : List ℕ)
      → up_to end collects (keep l) bs ≡ kept_in keep (up_to end collect l bs)
  unfolding up_to
  up_to_kept_in l [] = refl
  up_to_kept_in l (b ∷ bs) = grind (arith, by_byte, up_to_kept_in (collect l b) bs)
