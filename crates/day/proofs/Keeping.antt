-- A job after those placed keeps every rule with them exactly if it keeps those that concern it.
-- Assumes nothing.
use Rattle.std.proofs.lemmas.Grind.{common_steps}
use Rattle.std.proofs.Common.{ℕ, ◌+◌, ◌≡◌, List, [], ◌∷◌, ◌++◌, length, subst, arith, length-append, slice_index_or}
use Rattle.std.proofs.Common.{All}
use Rattle.std.proofs.Math.ListN.{get_or-append}
use Rattle.std.proofs.Math.Seq.{get_or-append_seam}
use Rattle.std.proofs.lemmas.List.Elements.{All-push, All-contains, Contains-push}
use Rattle.std.proofs.lemmas.List.Quantifiers.{all_pairs_push}
use Rattle.std.proofs.lemmas.List.Sums.{sum_by-append}
use Rattle.day.specs.Rules.{HasRig, InTime, AreApart, burns_on, burnt_together, Lasts, Keeps}
use Rattle.day.specs.declared.Rig.{Rig}
use Rattle.day.specs.declared.Placement.{Placement}

-- one job more burns what it burns
pub burnt_push : (k : ℕ) (r : Rig) (ps : List Placement) (p : Placement)
    → burnt_together k r (ps ++ p ∷ []) ≡ burnt_together k r ps + burns_on k r p
burnt_push k r ps p = grind (arith, sum_by-append)

pub burnt_here : (r : Rig) (ps : List Placement) (p : Placement)
    → burnt_together p.rig r (ps ++ p ∷ []) ≡ burnt_together p.rig r ps + (r.warm_up + p.job.length)
burnt_here r ps p = grind (arith, burnt_push)

module _ (rigs : List Rig) (ps : List Placement) (p : Placement) where
  -- a rig with no other job burns what it did
  lasts_elsewhere : (k : ℕ) → (p.rig ≡ k → ⊥) → Lasts rigs ps k → Lasts rigs (ps ++ p ∷ []) k
  lasts_elsewhere k other h r on = grind (arith, burnt_push)

  lasts_push : (k : ℕ) → Lasts rigs ps k → Lasts rigs (ps ++ p ∷ []) p.rig → Lasts rigs (ps ++ p ∷ []) k
  lasts_push k h l = grind (arith, lasts_elsewhere)

  pub keeps_push : Keeps rigs ps → HasRig rigs p → InTime rigs p → All (λ q. AreApart rigs q p) ps
      → Lasts rigs (ps ++ p ∷ []) p.rig → Keeps rigs (ps ++ p ∷ [])
  keeps_push k h t free l = grind (arith, common_steps, All-push, all_pairs_push, lasts_push)

  module _ (k : Keeps rigs (ps ++ p ∷ [])) where
    pub has_rig_last : HasRig rigs p
    has_rig_last = All-contains (HasRig rigs) (ps ++ p ∷ []) p k.rigged (Contains-push ps p)

    pub in_time_last : InTime rigs p
    in_time_last = All-contains (InTime rigs) (ps ++ p ∷ []) p k.timely (Contains-push ps p)

    pub apart_last : All (λ q. AreApart rigs q p) ps
    apart_last i d h =
        let n = length ps in
        let there : AreApart rigs (slice_index_or (ps ++ p ∷ []) i d) (slice_index_or (ps ++ p ∷ []) n d) =
        k.apart i n d h (omega (arith, length-append ps (p ∷ []))) in
        subst (λ (q : Placement). AreApart rigs q p) (get_or-append ps (p ∷ []) d i h)
        (subst (λ (q : Placement). AreApart rigs (slice_index_or (ps ++ p ∷ []) i d) q)
        (get_or-append_seam ps p [] d) there)
