use Rattle.std.proofs.Common.{ℕ, ◌<◌, ◌≤◌, [], ◌∷◌, ◌++◌, sym, subst, ◌∙◌, ⊎_elim, arith}
use Rattle.std.proofs.lemmas.Bool.{false≢true}
use Rattle.text.proofs.Orders.{le_or_lt}
use Rattle.day.specs.Rules.{Keeps}
use Rattle.day.specs.Plans.{on_rig}
use Rattle.day.proofs.Keeping.{has_rig_last}
use Rattle.day.proofs.plan.lowest_rig.Goals as goal

pub loop-rig-preserved : goal.loop-rig-preserved
loop-rig-preserved c q h k =
    let rig = c.loop-rig.rig in
    ⊎_elim
    (λ (l : rig ≤ q).
    false≢true (sym c.if-is_joining.false ∙ c.is_joining.ensures.1
    (subst (λ (q : ℕ). Keeps c.args.rigs.now (c.args.placed.now ++ on_rig c.args.job q ∷ [])) (omega arith) k)))
    (λ (l : q < rig). c.loop-rig.invariant q l k) (le_or_lt rig q)

pub returns : goal.returns
returns c q k =
    let rig = c.loop-rig.rig in
    let exists = (has_rig_last _ _ _ k).0 in
    ⊎_elim (λ (l : rig ≤ q). omega arith) (λ (l : q < rig). c.loop-rig.invariant q l k) (le_or_lt rig q)

pub returns-then-is_joining : goal.returns-then-is_joining
returns-then-is_joining c = record {
  keeps = subst (λ (q : ℕ). Keeps c.args.rigs.now (c.args.placed.now ++ on_rig c.args.job q ∷ [])) (omega arith)
      (c.is_joining.ensures.0 c.if-is_joining.true);
  lowest = λ q h. c.loop-rig.invariant q (omega arith);
}
