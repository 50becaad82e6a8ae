-- Collecting one byte, by what is kept so far; collecting the bytes before the end all at once is collecting them one
-- after the other.
-- Assumes nothing.
use Rattle.std.proofs.Common.{ℕ, suc, ◌+◌, ◌≤◌, ◌<◌, ◌≡◌, refl, sym, ap, ◌∙◌, Bool, true, false, List, [], ◌∷◌, ⊎_elim}
use Rattle.std.proofs.Common.{add-zero, add-one, arith, length, take, set, nat_lt, ◌==◌, le-leb, leb-true, leb-false}
use Rattle.std.proofs.Common.{if◌then◌else◌, not}
use Rattle.std.proofs.lemmas.Bool.{lt-leb}
use Rattle.std.proofs.Math.Seq.{sets}
use mathlib.Core.List.{foldl}
use Rattle.text.specs.Flags.{is_raised}
use Rattle.text.specs.Scans.{index_of}
use Rattle.text.proofs.Choices.{if_yes, if_no, if_by}
use Rattle.text.proofs.FlagsTold.{lowered_zero}
use Rattle.text.proofs.Orders.{le_or_lt}
use Rattle.record.specs.declared.types.CollectedLine.{CollectedLine}
use Rattle.stream.specs.Collecting.{overlong_line, collected_in, collected_all}
use Rattle.stream.specs.Machine.{UpTo, one_later, up_to}

-- one byte more: under the overlong flag, past the limit, where there is room
abbrev pub more : CollectedLine → ℕ → CollectedLine
more l b = record { overlong = 0; held = l.held + 1; bytes = set l.bytes l.held b }

module _ (left : List ℕ → List ℕ) (most : ℕ) (l : CollectedLine) (b : ℕ) where
  abbrev pub past : CollectedLine
  past = record { overlong = 1; held = 0; bytes = left l.bytes }

  pub collected_by : (P : CollectedLine → Type 0) → (is_raised l.overlong ≡ true → P l)
      → (is_raised l.overlong ≡ false → most ≤ l.held → P past)
      → (is_raised l.overlong ≡ false → l.held < most → P (more l b))
      → P (collected_in left most l b)
  unfolding collected_in
  collected_by P marked full fits = grind (arith, if_by, leb-true, leb-false)

  pub one_marked : is_raised l.overlong ≡ true → collected_in left most l b ≡ l
  unfolding collected_in
  one_marked e = if_yes _ _ e

  module _ (unmarked : is_raised l.overlong ≡ false) where
    pub one_fits : l.held < most → collected_in left most l b ≡ more l b
    unfolding collected_in
    one_fits h = if_no _ _ unmarked ∙ if_no _ _ (lt-leb most l.held h)

    pub one_past : most ≤ l.held → collected_in left most l b ≡ past
    unfolding collected_in
    one_past h = if_no _ _ unmarked ∙ if_yes _ _ (le-leb most l.held h)

module _ (most : ℕ) where
  -- the overlong flag stays
  pub marked_stays : (l : CollectedLine) (bs : List ℕ) → is_raised l.overlong ≡ true → collected_all most l bs ≡ l
  marked_stays l [] e = refl
  marked_stays l (b ∷ bs) e = grind (arith, one_marked, marked_stays l bs e)

  pub all_fit : (l : CollectedLine) (bs : List ℕ) → is_raised l.overlong ≡ false → l.held + length bs ≤ most
      → collected_all most l bs
      ≡ record { overlong = 0; held = l.held + length bs; bytes = sets l.bytes l.held bs }
  all_fit l [] e h =
      (λ i. record { overlong = lowered_zero l.overlong e i; held = sym (add-zero l.held) i; bytes = l.bytes })
  all_fit l (b ∷ bs) e h = grind (arith, one_fits, add-one, all_fit (more l b) bs refl (omega arith))

  pub all_past : (l : CollectedLine) (bs : List ℕ) → is_raised l.overlong ≡ false → 1 ≤ length bs
      → most < l.held + length bs
      → collected_all most l bs ≡ overlong_line
  unfolding overlong_line
  all_past l [] e s h = absurd (omega arith)
  all_past l (b ∷ bs) e s h =
      ⊎_elim (λ (p : most ≤ l.held).
      ap (λ (m : CollectedLine). collected_all most m bs) (one_past _ most l b e p)
      ∙ marked_stays overlong_line bs refl)
      (λ (p : l.held < most).
      ap (λ (m : CollectedLine). collected_all most m bs) (one_fits _ most l b e p)
      ∙ all_past (more l b) bs refl (omega arith) (omega arith))
      (le_or_lt most l.held)

-- the bytes before the end, all at once, and whether it came
module _ {L : Type 0} (end : ℕ) (collect : L → ℕ → L) where
  abbrev at : L → ℕ → Bool → UpTo L
  at l n e = record { line = l; before = n; ended = e }

  abbrev pub at_once : L → List ℕ → UpTo L
  at_once l bs =
      let n = index_of end bs in
      at (foldl collect l (take n bs)) n (nat_lt n (length bs))

  first : (l : L) (b : ℕ) (bs : List ℕ) (t : Bool) → up_to end collect (collect l b) bs ≡ at_once (collect l b) bs
      → (if t then at l 0 true else one_later (up_to end collect (collect l b) bs))
      ≡ (let n = if not t then 1 + index_of end bs else 0 in
      at (foldl collect l (take n (b ∷ bs))) n (nat_lt n (suc (length bs))))
  first l b bs t h = grind arith

  pub all_at_once : (l : L) (bs : List ℕ) → up_to end collect l bs ≡ at_once l bs
  unfolding up_to
  all_at_once l [] = refl
  all_at_once l (b ∷ bs) = first l b bs (b == end) (all_at_once (collect l b) bs)
