-- The letters of a body name it in a line of its class, whatever their case, and no other body of that class.
--   Named b          what the bodies' rows show of the letters of b
-- Assumes nothing.
use Rattle.std.proofs.Common.{arith, ℕ, ◌≡◌, true, ◌&&◌, List, ◌==◌, find, Option, Some}
use Rattle.std.specs.Option.{option_map}
use Rattle.text.specs.Scans.{is_same_by, itself}
use Rattle.text.proofs.Sameness.{same_turned}
use Rattle.words.specs.Classes.{class_as_number}
use Rattle.pjlink.specs.Bodies.{body_rows, class_of, body_named, is_body}
use Rattle.pjlink.specs.Commands.{body_text}
use Rattle.pjlink.specs.declared.body.BodyRow.{BodyRow}
use Rattle.pjlink.specs.declared.body.Body.{Body}

-- the body of Class k whose text is exactly s
abbrev exactly : ℕ → List ℕ → Option Body
exactly k s =
    option_map (λ (r : BodyRow). r.body)
    (find (λ (r : BodyRow). k == class_as_number r.class && is_same_by itself s r.letters) body_rows)

pub record Named (b : Body) : Type 0 where
  pub own : is_body (class_of b) (body_text b) b ≡ true
  pub alone : exactly (class_of b) (body_text b) ≡ Some b

pub body_named_lem : (b : Body) → Named b
body_named_lem b = grind arith

-- bytes that a body's text is, in any case of letters, name that body
pub body_is_named : (k : ℕ) (s : List ℕ) (b : Body) → is_body k s b ≡ true → body_named k s ≡ Some b
body_is_named k s b named = grind (arith, same_turned)
