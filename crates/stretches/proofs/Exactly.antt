-- A second lies in a stretch exactly if it is lit.
-- Assumes nothing.
use Rattle.std.proofs.Common.{ℕ, suc, ◌-◌, ◌≤◌, ◌<◌, ◌≡◌, refl, ap, ◌∙◌, Bool, true, false, ◌&&◌, ◌||◌, List, [], ◌∷◌}
use Rattle.std.proofs.Common.{◌++◌, arith, slice_index_or, nat_le, nat_lt, le-ltb, if◌then◌else◌}
use Rattle.stretches.specs.Stretches.{Stretch, stretch_if, stretches_from, stretches_of, is_in}

-- by the side of t on which i lies
abbrev lit_at : Bool → ℕ → ℕ → List Bool → ℕ → Bool
lit_at lit f t ls i = if nat_lt i t then lit && nat_le f i else slice_index_or ls (i - t) false

is_in-append : (xs ys : List Stretch) (i : ℕ) → is_in (xs ++ ys) i ≡ (is_in xs i || is_in ys i)
is_in-append [] ys i = refl
is_in-append (s ∷ xs) ys i = grind (arith, is_in-append xs ys i)

-- the stretch that has begun, if any, has the seconds before t
is_in-stretch_if : (lit : Bool) (f t i : ℕ) →
    is_in (stretch_if lit f t) i ≡ (if nat_lt i t then lit && nat_le f i else false)
is_in-stretch_if lit f t i = grind arith

shifted : (b : Bool) (ls : List Bool) (i t : ℕ) → t < i →
    slice_index_or (b ∷ ls) (i - t) false ≡ slice_index_or ls (i - suc t) false
shifted b ls i t h = let e : i - t ≡ suc (i - suc t) = omega arith in ap (λ (n : ℕ). slice_index_or (b ∷ ls) n false) e

here : (b : Bool) (ls : List Bool) (i t : ℕ) → i ≡ t → slice_index_or (b ∷ ls) (i - t) false ≡ b
here b ls i t e = let none : i - t ≡ 0 = omega arith in ap (λ (n : ℕ). slice_index_or (b ∷ ls) n false) none

-- one second more, lit or not
lit_next : (ls : List Bool) (lit : Bool) (f t i : ℕ) → f ≤ t
    → lit_at true (if lit then f else t) (suc t) ls i ≡ lit_at lit f t (true ∷ ls) i
lit_next ls lit f t i h = grind (arith, shifted, here)

dim_next : (ls : List Bool) (lit : Bool) (f t i : ℕ) → f ≤ t
    → ((if nat_lt i t then lit && nat_le f i else false) || lit_at false f (suc t) ls i) ≡ lit_at lit f t (false ∷ ls) i
dim_next ls lit f t i h = grind (arith, shifted, here)

pub is_in-stretches_from : (ls : List Bool) (lit : Bool) (f t i : ℕ) → f ≤ t
    → is_in (stretches_from lit f t ls) i ≡ lit_at lit f t ls i
is_in-stretches_from [] lit f t i h = is_in-stretch_if lit f t i
is_in-stretches_from (true ∷ ls) lit f t i h =
    is_in-stretches_from ls true (if lit then f else t) (suc t) i (grind arith) ∙ lit_next ls lit f t i h
is_in-stretches_from (false ∷ ls) lit f t i h =
    is_in-append (stretch_if lit f t) (stretches_from false f (suc t) ls) i
    ∙ (λ j. is_in-stretch_if lit f t i j || is_in-stretches_from ls false f (suc t) i (omega arith) j)
    ∙ dim_next ls lit f t i h

pub exactly_lit : (ls : List Bool) (i : ℕ) → is_in (stretches_of ls) i ≡ slice_index_or ls i false
exactly_lit ls i = grind (arith, is_in-stretches_from, le-ltb)
