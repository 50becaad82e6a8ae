-- At most one verdict holds of a plan: what a verdict says of the rules before its own, and of the lowest job or rig,
-- no other one says.
-- Assumes nothing.
use Rattle.std.proofs.Common.{ℕ, ◌<◌, ◌≡◌, List, Ok, Err, Result, refl, ap, subst, arith, ⊎_elim, All}
use Rattle.text.proofs.Orders.{le_or_lt}
use Rattle.day.specs.Rules.{HasRig, InTime, Lasts}
use Rattle.day.specs.Verdicts.{IsLowestBreaking, IsLowestPartner, IsLowestClash, IsLowestSpent}
use Rattle.day.specs.Verdicts.{InRange, AllRigged, AllTimely, AllApart, VerdictHolds}
use Rattle.day.specs.declared.Rig.{Rig}
use Rattle.day.specs.declared.Placement.{Placement}
use Rattle.day.specs.declared.check.CheckError.{CheckError}
use Rattle.day.specs.declared.check.CheckError.TheVariants.{OutOfRange, NoRig, TooEarly, Clash, Spent}
use Rattle.day.proofs.Greedily.{nobody}

-- two numbers of which neither is below the other
one_of : {j k : ℕ} → (j < k → ⊥) → (k < j → ⊥) → j ≡ k
one_of {j} {k} p q = grind (arith, ⊎_elim, le_or_lt)

module _ (rule : Placement → Type 0) (ps : List Placement) where
  breaking_above : {j k : ℕ} → IsLowestBreaking rule ps j → IsLowestBreaking rule ps k → j < k → ⊥
  breaking_above {j} a b h = a.breaks nobody (b.lower j nobody (omega arith) h)

  one_breaking : {j k : ℕ} → IsLowestBreaking rule ps j → IsLowestBreaking rule ps k → j ≡ k
  one_breaking a b = one_of (breaking_above a b) (breaking_above b a)

  none_breaking : {j : ℕ} → IsLowestBreaking rule ps j → All rule ps → ⊥
  none_breaking {j} a all = a.breaks nobody (all j nobody a.inside)

module _ (rigs : List Rig) (ps : List Placement) where
  partner_above : {i j k : ℕ} → IsLowestPartner rigs ps i j → IsLowestPartner rigs ps i k → j < k → ⊥
  partner_above {i} {j} a b h = b.lower_second j a.later h nobody (a.shares nobody)

  clash_above : {i j k l : ℕ} → IsLowestClash rigs ps i j → IsLowestClash rigs ps k l → i < k → ⊥
  clash_above {i} {j} a b h =
      b.lower_first i h j a.partner.later a.partner.inside nobody (a.partner.shares nobody)

  one_first : {i j k l : ℕ} → IsLowestClash rigs ps i j → IsLowestClash rigs ps k l → i ≡ k
  one_first a b = one_of (clash_above a b) (clash_above b a)

  one_clash : {i j k l : ℕ} → i ≡ k → IsLowestPartner rigs ps i j → IsLowestPartner rigs ps k l → Clash i j ≡ Clash k l
  one_clash {i} {j} {k} {l} e a b =
      let there = subst (λ (i : ℕ). IsLowestPartner rigs ps i j) e a in
      let second = one_of (partner_above there b) (partner_above b there) in
      λ t. Clash (e t) (second t)

  none_clash : {i j : ℕ} → IsLowestClash rigs ps i j → AllApart rigs ps → ⊥
  none_clash {i} {j} a all =
      all i j nobody a.partner.later a.partner.inside (a.partner.shares nobody)

  spent_above : {j k : ℕ} → IsLowestSpent rigs ps j → IsLowestSpent rigs ps k → j < k → ⊥
  spent_above {j} a b h = a.spends (b.lower j h)

  one_spent : {j k : ℕ} → IsLowestSpent rigs ps j → IsLowestSpent rigs ps k → j ≡ k
  one_spent a b = one_of (spent_above a b) (spent_above b a)

  none_spent : {k : ℕ} → IsLowestSpent rigs ps k → ((q : ℕ) → Lasts rigs ps q) → ⊥
  none_spent {k} a all = a.spends (all k)

  abbrev Verdict : Type 0
  Verdict = Result (Unit {0}) CheckError

  abbrev Holds : Verdict → Type 0
  Holds = VerdictHolds rigs ps

  by_range : (InRange rigs ps → ⊥) → (v : Verdict) → Holds v → Err OutOfRange ≡ v
  by_range h v g = grind arith

  module _ (within : InRange rigs ps) where
    by_rig : {j : ℕ} → IsLowestBreaking (HasRig rigs) ps j → (v : Verdict) → Holds v → Err (NoRig j) ≡ v
    by_rig a (Err OutOfRange) w = absurd (w within)
    by_rig a (Err (NoRig k)) w = ap (λ (k : ℕ). Err (NoRig k)) (one_breaking (HasRig rigs) ps a w.1)
    by_rig a (Err (TooEarly k)) w = absurd (none_breaking (HasRig rigs) ps a w.1)
    by_rig a (Err (Clash k l)) w = absurd (none_breaking (HasRig rigs) ps a w.1)
    by_rig a (Err (Spent k)) w = absurd (none_breaking (HasRig rigs) ps a w.1)
    by_rig a (Ok x) w = absurd (none_breaking (HasRig rigs) ps a w.1.rigged)

    module _ (rigged : AllRigged rigs ps) where
      by_time : {j : ℕ} → IsLowestBreaking (InTime rigs) ps j → (v : Verdict) → Holds v → Err (TooEarly j) ≡ v
      by_time a (Err OutOfRange) w = absurd (w within)
      by_time a (Err (NoRig k)) w = absurd (none_breaking (HasRig rigs) ps w.1 rigged)
      by_time a (Err (TooEarly k)) w = ap (λ (k : ℕ). Err (TooEarly k)) (one_breaking (InTime rigs) ps a w.2)
      by_time a (Err (Clash k l)) w = absurd (none_breaking (InTime rigs) ps a w.2)
      by_time a (Err (Spent k)) w = absurd (none_breaking (InTime rigs) ps a w.2)
      by_time a (Ok x) w = absurd (none_breaking (InTime rigs) ps a w.1.timely)

      module _ (timely : AllTimely rigs ps) where
        by_clash : {i j : ℕ} → IsLowestClash rigs ps i j → (v : Verdict) → Holds v → Err (Clash i j) ≡ v
        by_clash a (Err OutOfRange) w = absurd (w within)
        by_clash a (Err (NoRig k)) w = absurd (none_breaking (HasRig rigs) ps w.1 rigged)
        by_clash a (Err (TooEarly k)) w = absurd (none_breaking (InTime rigs) ps w.2 timely)
        by_clash a (Err (Clash k l)) w =
            ap (λ (e : CheckError). Err e) (one_clash (one_first a w.3) a.partner w.3.partner)
        by_clash a (Err (Spent k)) w = absurd (none_clash a w.3)
        by_clash a (Ok x) w = absurd (none_clash a w.1.apart)

        module _ (apart : AllApart rigs ps) where
          by_life : {j : ℕ} → IsLowestSpent rigs ps j → (v : Verdict) → Holds v → Err (Spent j) ≡ v
          by_life a (Err OutOfRange) w = absurd (w within)
          by_life a (Err (NoRig k)) w = absurd (none_breaking (HasRig rigs) ps w.1 rigged)
          by_life a (Err (TooEarly k)) w = absurd (none_breaking (InTime rigs) ps w.2 timely)
          by_life a (Err (Clash k l)) w = absurd (none_clash w.3 apart)
          by_life a (Err (Spent k)) w = ap (λ (k : ℕ). Err (Spent k)) (one_spent a w.4)
          by_life a (Ok x) w = absurd (none_spent a w.1.lasting)

  pub one_verdict : (v w : Verdict) → Holds v → Holds w → v ≡ w
  one_verdict (Err OutOfRange) w p q = by_range p w q
  one_verdict (Err (NoRig j)) w p q = by_rig p.0 p.1 w q
  one_verdict (Err (TooEarly j)) w p q = by_time p.0 p.1 p.2 w q
  one_verdict (Err (Clash i j)) w p q = by_clash p.0 p.1 p.2 p.3 w q
  one_verdict (Err (Spent k)) w p q = by_life p.0 p.1 p.2 p.3 p.4 w q
  one_verdict (Ok x) (Err OutOfRange) p q = absurd (q p.0)
  one_verdict (Ok x) (Err (NoRig j)) p q = absurd (none_breaking (HasRig rigs) ps q.1 p.1.rigged)
  one_verdict (Ok x) (Err (TooEarly j)) p q = absurd (none_breaking (InTime rigs) ps q.2 p.1.timely)
  one_verdict (Ok x) (Err (Clash i j)) p q = absurd (none_clash q.3 p.1.apart)
  one_verdict (Ok x) (Err (Spent k)) p q = absurd (none_spent q.4 p.1.lasting)
  one_verdict (Ok x) (Ok y) p q = refl
