use Rattle.std.proofs.Common.{List, ℕ, ◌∙◌, ◌∷◌, ◌++◌, [], refl, slice_index_or}
use Rattle.history.proofs.ByTwos.{ten_lowest}
use Rattle.history.proofs.figures.ten.Goals as goal

abbrev both : List ℕ → List ℕ
both s = slice_index_or s 0 0 ∷ slice_index_or s 1 0 ∷ []

pub returns : goal.returns
returns c =
    (λ i. both (c.two.ensures i) ++ both (c.two-2.ensures i) ++ both (c.two-3.ensures i) ++ both (c.two-4.ensures i)
    ++ both (c.two-5.ensures i))
    ∙ ten_lowest c.args.number _ _ _ _ refl refl refl refl
