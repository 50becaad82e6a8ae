-- A line of a class names a body by the rows of its class (RULES, Class 2): rows of other classes change nothing.
-- Assumes nothing.
use Rattle.std.proofs.Common.{ℕ, ◌≡◌, refl, ap, ◌∙◌, arith, Bool, true, false, not, ◌&&◌, ◌||◌, List, [], ◌∷◌, ◌++◌}
use Rattle.std.proofs.Common.{Option, find, eqb-true, length}
use Rattle.std.specs.Prelude.{nat_le}
use Rattle.std.specs.List.{list_all}
use Rattle.std.specs.Option.{option_map}
use Prim.Native.Char.{code}
use Rattle.text.specs.Words.{◌is◌}
use Rattle.words.specs.Bytes.{◌at◌, command_most}
use Rattle.pjlink.specs.declared.body.BodyRow.{BodyRow}
use Rattle.pjlink.specs.Bodies.{is_named, body_rows}
use Rattle.pjlink.specs.Forms.{is_command_form, is_headed}
use Rattle.pjlink.specs.Requests.{body_request, request_of}
use Rattle.pjlink.specs.RowsOfClass.{is_row_of_class, rows_of_class, known_in_class, request_by}

module _ (k : ℕ) (s : List ℕ) where
  abbrev found : List BodyRow → Option BodyRow
  found rows = find (is_named k s) rows

  found_in_class : (rows : List BodyRow) → found (rows_of_class k rows) ≡ found rows
  found_in_class [] = refl
  found_in_class (r ∷ rows) = grind (arith, found_in_class rows)

  none_in_others : (more : List BodyRow) → list_all (λ r. not (is_row_of_class k r)) more ≡ true → found more ≡ found []
  none_in_others [] others = refl
  none_in_others (r ∷ more) others = grind (arith, none_in_others more)

  found_beside : (rows more : List BodyRow) → list_all (λ r. not (is_row_of_class k r)) more ≡ true
      → found (rows ++ more) ≡ found rows
  found_beside [] more others = none_in_others more others
  found_beside (r ∷ rows) more others = grind (arith, found_beside rows more)

  -- the rows of the class and any of others are as good as all
  pub asked_by_class : (p : List ℕ) (more : List BodyRow) → list_all (λ r. not (is_row_of_class k r)) more ≡ true
      → request_by (rows_of_class k body_rows ++ more) k s p ≡ known_in_class k (request_of k s p)
  unfolding request_by request_of
  asked_by_class p more others =
      ap (λ (m : Option BodyRow). known_in_class k (body_request (option_map (λ (r : BodyRow). r.body) m) p))
      (found_beside (rows_of_class k body_rows) more others ∙ found_in_class body_rows)

-- a set-up of Class 1 takes lines of Class 1
class_last : (a b c one : Bool) → (a && b && c && (one || false)) ≡ true → one ≡ true
class_last a b c one h = grind arith

pub class_byte_1 : (l : List ℕ) → is_command_form 1 l ≡ true → l at 1 ≡ code "1"
unfolding is_command_form
class_byte_1 l e =
    eqb-true (l at 1) (code "1")
    (class_last (nat_le 7 (length l)) (nat_le (length l) command_most) (is_headed (code " ") l) (l at 1 is "1") e)
