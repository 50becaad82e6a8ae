-- The first place that `position` gives, or the number of pairs where it gives none.
use Rattle.std.proofs.Common.{◌≡◌, List, ℕ, map, rules, tests, refl, sym, ap, ◌∙◌, add-one, true, false}
use Rattle.std.proofs.lemmas.Iterator.{YieldsList-from_slice, IsFirst-from_position, index_from_first}
use Rattle.words.specs.Sources.{is_same_input}
use Rattle.meaning.specs.SetUpInputs.{pair_input, index_in}
use Rattle.meaning.proofs.inputs.listed_index.Goals as goal

pub returns : goal.returns
unfolding index_in
returns c =
    let i = c.args.input in
    let ps = c.pairs_of-pairs.result.now in
    let Is : List ℕ → Type 0 = λ p. is_same_input (pair_input p) i ≡ true in
    let IsNot : List ℕ → Type 0 = λ p. is_same_input (pair_input p) i ≡ false in
    let place : List (List ℕ) → ℕ = λ l. index_in i (map pair_input l) in
    let first = IsFirst-from_position _ _ _ Is IsNot c.position.ensures.ran (YieldsList-from_slice ps cc)
    (λ x q k. search (rules, tests)) (λ x q k. search (rules, tests)) in
    c.unwrap_or.ensures
    ∙ sym (index_from_first place Is IsNot refl (λ x xs e. rw e refl) (λ x xs e. rw e (simp add-one)) ps _ first)
    ∙ ap (index_in i) c.pairs_of-pairs.ensures.inputs
