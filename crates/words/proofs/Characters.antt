-- Bytes within a range of characters; bytes without CR, one by one; letters and digits are never CR.
-- Assumes nothing.
use Rattle.std.proofs.Common.{arith, ℕ, ◌≤◌, ◌≡◌, refl, ap, Bool, true, false, not, ◌||◌, List}
use Rattle.std.specs.List.{list_all}
use Prim.Native.Char.{Char, code}
use Rattle.text.specs.Words.{◌is◌, ◌from◌to◌}
use Rattle.words.specs.Bytes.{is_alnum, is_not_cr, is_cr_free}

pub in_range : (b : ℕ) (l h : Char) → b from l to h ≡ true → (code l ≤ b) × (b ≤ code h)
in_range b l h e = grind arith

-- one of two tests holds
pub either_by : {P : Type 0} (t u : Bool) → (t || u) ≡ true → (t ≡ true → P) → (u ≡ true → P) → P
either_by t u h g e = grind arith

pub no_cr_of : (s : List ℕ) → list_all is_not_cr s ≡ true → is_cr_free s ≡ true
unfolding is_cr_free
no_cr_of s e = e

pub no_cr_each : (s : List ℕ) → is_cr_free s ≡ true → list_all is_not_cr s ≡ true
unfolding is_cr_free
no_cr_each s e = e

pub alnum_isnt : (x : Char) → is_alnum (code x) ≡ false → (b : ℕ) → is_alnum b ≡ true → (b is x) ≡ false
alnum_isnt x other b e = grind arith

pub alnum_not_cr : (b : ℕ) → is_alnum b ≡ true → is_not_cr b ≡ true
alnum_not_cr b e = ap not (alnum_isnt "\r" refl b e)
