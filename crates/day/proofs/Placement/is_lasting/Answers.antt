-- Its rig is one, and it burns there W plus its length.
use Rattle.std.proofs.Common.{◌≡◌, ◌≤◌, [], ◌∷◌, ◌++◌, subst, arith, leb-true, le-leb}
use Rattle.day.specs.Rules.{burnt_together}
use Rattle.day.specs.declared.Rig.{Rig}
use Rattle.day.proofs.Keeping.{burnt_here}
use Rattle.day.proofs.Placement.is_lasting.Goals as goal

pub returns-in-Some : goal.returns-in-Some
returns-in-Some c =
    let p = c.args.self in
    let ps = c.args.placed.now in
    let rig = c.in-Some.rig in (
      λ t r on.
          let here : rig ≡ r = cc in
          subst (λ (r : Rig). burnt_together p.rig r (ps ++ p ∷ []) ≤ r.life) here
          (omega (arith, burnt_here rig ps p, c.burnt_on-burnt.ensures.sum, leb-true _ _ t)),
      λ l. le-leb _ _ (omega (arith, burnt_here rig ps p, c.burnt_on-burnt.ensures.sum, l rig (cc))),
    )
