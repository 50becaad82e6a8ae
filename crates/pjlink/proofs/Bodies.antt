-- Bodies: each is of Class 1 or 2 and has four letters or digits.
--   each_body        what is so of the list of bodies is so of each: a law over bodies is one computed line
--   Spelt b          what the row of b shows
-- Assumes nothing.
use Rattle.std.proofs.Common.{arith, ℕ, ◌≤◌, ◌≡◌, ap, Bool, true, ◌&&◌, List, [], ◌∷◌, map, slice_index_or}
use Rattle.std.proofs.Common.{nat_le, refl, length}
use Rattle.std.specs.List.{list_all}
use Rattle.words.specs.Bytes.{◌at◌, is_alnum}
use Rattle.pjlink.specs.Bodies.{bodies, class_of}
use Rattle.pjlink.specs.Commands.{body_text}
use Rattle.pjlink.specs.Forms.{IsLetters}
use Rattle.pjlink.specs.declared.body.Body.{Body}
use Rattle.pjlink.specs.declared.body.Body.TheVariants.{Powr}

module _ {A : Type 0} (f g : Body → A) (e : map f bodies ≡ map g bodies) where
  nth : (i : ℕ) → slice_index_or (map f bodies) i (f Powr) ≡ slice_index_or (map g bodies) i (f Powr)
  nth i = ap (λ (l : List A). slice_index_or l i (f Powr)) e

  pub each_body : (b : Body) → f b ≡ g b
  each_body b = grind arith

abbrev pub yes : Body → Bool
yes b = true

abbrev pub four : List ℕ → List ℕ
four s = (s at 0) ∷ (s at 1) ∷ (s at 2) ∷ (s at 3) ∷ []

-- what a body's row shows by computing
pub record Spelt (b : Body) : Type 0 where
  pub long : four (body_text b) ≡ body_text b
  pub letters : list_all is_alnum (body_text b) ≡ true
  pub classed : (nat_le 1 (class_of b) && nat_le (class_of b) 2) ≡ true

pub body_letters : (b : Body) → IsLetters (body_text b)
body_letters b = record {
  four = each_body (λ (x : Body). length (body_text x)) (λ (x : Body). 4) refl b;
  each = each_body (λ (x : Body). list_all is_alnum (body_text x)) yes refl b;
}

pub body_spelt : (b : Body) → Spelt b
body_spelt b = grind arith

pub class_said : (b : Body) → (1 ≤ class_of b) × (class_of b ≤ 2)
class_said b = grind arith
