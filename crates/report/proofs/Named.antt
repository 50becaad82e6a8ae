-- The files that a page names, one after the other.
use Rattle.std.proofs.Common.{◌≡◌, ℕ, ◌+◌, ◌<◌, List, [], ◌∷◌, ◌++◌, length, take, drop, get_or, refl, sym, ap}
use Rattle.std.proofs.Common.{subst, ◌∙◌, append_assoc, append-nil, Option, Err}
use Rattle.std.proofs.lemmas.List.{take_more, take-append-drop}
use Rattle.std.specs.Borrow.{Bor}
use Rattle.std.specs.declared.result.Result.{Result}
use Rattle.std.specs.Result.{IsErr, IsErrAnd}
use Rattle.std.specs.Io.KnownBytes.{Appends}
use Rattle.std.proofs.KnownBytes.{Appends-trans}
use Rattle.textio.specs.Fronts.{WritesText}
use Rattle.textio.proofs.Fronts.{writes_after, writes_fails}
use Rattle.report.specs.Frame.{log_item, log_items}
use Rattle.report.specs.Reports.{texts_given}

items_append : (xs ys : List (Bor (List ℕ)))
    → log_items (texts_given (xs ++ ys)) ≡ log_items (texts_given xs) ++ log_items (texts_given ys)
unfolding log_items
items_append [] ys = refl
items_append (x ∷ xs) ys = ap (λ l. log_item x.now ++ l) (items_append xs ys)
    ∙ sym (append_assoc (log_item x.now) (log_items (texts_given xs)) (log_items (texts_given ys)))

item_alone : (x : Bor (List ℕ)) → log_items (texts_given (x ∷ [])) ≡ log_item x.now
unfolding log_items
item_alone x = append-nil (log_item x.now)

module _ (ls : List (Bor (List ℕ))) (i : ℕ) (d : Bor (List ℕ)) (inside : i < length ls) where
  item_more : log_items (texts_given (take (i + 1) ls))
      ≡ log_items (texts_given (take i ls)) ++ log_item (get_or ls i d).now
  item_more = ap (λ l. log_items (texts_given l)) (take_more ls i d inside)
      ∙ items_append (take i ls) (get_or ls i d ∷ [])
      ∙ ap (λ t. log_items (texts_given (take i ls)) ++ t) (item_alone (get_or ls i d))

  -- one turn more
  pub named_more : (x y z : Option (List ℕ)) → Appends x y (log_items (texts_given (take i ls)))
      → Appends y z (log_item (get_or ls i d).now) → Appends x z (log_items (texts_given (take (i + 1) ls)))
  named_more x y z p q = subst (Appends x z) (sym item_more) (Appends-trans x y z _ _ p q)

  items_split : log_items (texts_given ls) ≡ log_items (texts_given (take i ls))
      ++ (log_item (get_or ls i d).now ++ log_items (texts_given (drop (i + 1) ls)))
  items_split = ap (λ l. log_items (texts_given l)) (sym (take-append-drop (i + 1) ls))
      ∙ items_append (take (i + 1) ls) (drop (i + 1) ls)
      ∙ ap (λ t. t ++ log_items (texts_given (drop (i + 1) ls))) item_more
      ∙ append_assoc (log_items (texts_given (take i ls))) (log_item (get_or ls i d).now)
      (log_items (texts_given (drop (i + 1) ls)))

  -- a turn that failed
  pub named_fails : {T U E : Type 0} {fails : E → Type 0} {x y z : Option (List ℕ)} {e : E} {r : Result U E}
      → Appends x y (log_items (texts_given (take i ls)))
      → WritesText {T = T} fails y z (Err e) (log_item (get_or ls i d).now)
      → IsErr r × IsErrAnd r (λ f. f ≡ e)
      → WritesText fails x z r (log_items (texts_given ls))
  named_fails {fails = fails} {x} {y} {z} {r = r} p q failed =
      subst (WritesText fails x z r) (sym items_split)
      (writes_after _ p (writes_fails (log_items (texts_given (drop (i + 1) ls))) q failed))
