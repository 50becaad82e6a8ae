-- The law of the writer: one thing after the other, and what is past the end of the memory.
-- Assumes nothing.
use Rattle.std.proofs.Common.{ℕ, zero, suc, ◌+◌, ◌<◌, ◌≤◌, ◌≡◌, List, [], ◌∷◌, ◌++◌, length, take}
use Rattle.std.proofs.Common.{set, refl, ◌∙◌, arith, length-append, length-set}
use Rattle.std.proofs.lemmas.Grind.{common_steps}
use Rattle.std.proofs.lemmas.List.Edits.{sets}
use Rattle.text.specs.Words.{over}
use Rattle.text.proofs.Stores.{sets_then, sets_over}
use Rattle.lent.specs.Puts.{Puts}
use Rattle.lent.specs.declared.MemoryWriter.{MemoryWriter}

-- ---- past the end of the memory

pub sets_past : (s l : List ℕ) (i : ℕ) → length l ≤ i → sets l i s ≡ l
sets_past [] l i h = refl
sets_past (x ∷ s) l i h = grind (arith, common_steps, sets_past s l (suc i), h)

pub sets_fit : (s l : List ℕ) (i n : ℕ) → (n < length s → length l ≤ i + n) → sets l i (take n s) ≡ sets l i s
sets_fit [] l i n h = grind (arith, common_steps)
sets_fit (x ∷ s) l i zero h = grind (arith, sets_past (x ∷ s) l i, h)
sets_fit (x ∷ s) l i (suc n) h = grind (arith, sets_fit s (set l i x) (suc i) n, h, length-set l i x)

-- ---- one after the other

module _ {a b c : MemoryWriter} {s t : List ℕ} where
  pub puts_as : {u : List ℕ} → u ≡ s ++ t → Puts a b s → Puts b c t → Puts a c u
  puts_as e p q = grind (arith, sets_then, length-append)

  pub puts_then : Puts a b s → Puts b c t → Puts a c (s ++ t)
  puts_then = puts_as refl

-- none
pub puts_none : (w : MemoryWriter) → Puts w w []
puts_none w = record { lent = refl; memory = refl; count = omega arith }

-- ---- all that is written

pub written_over : (s l : List ℕ) {m : List ℕ} → length s ≤ length l → m ≡ sets l 0 s → m ≡ over s l
written_over s l h e = e ∙ sets_over s l h
