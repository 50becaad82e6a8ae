use Rattle.std.proofs.Common.{ℕ, ◌<◌, List, length, sym, ◌∙◌, arith, zero-add, map}
use Rattle.std.proofs.Math.ListN.{set, get_or-map}
use Rattle.std.proofs.lemmas.List.{length-map, take_all}
use Rattle.text.proofs.Stores.{sets_more, sets_over}
use Rattle.day.specs.declared.Placement.{Placement}
use Rattle.day.proofs.Greedily.{nobody}
use Rattle.board.proofs.days.put_rigs_of.Goals as goal

abbrev rigs : List Placement → List ℕ
rigs ps = map (λ p. p.rig) ps

pub loop-j-preserved : goal.loop-j-preserved
loop-j-preserved c =
    let ps = c.args.plan.now in
    let out = c.args.out.now in
    let j = c.loop-j.j in
    let inside : j < length (rigs ps) = omega (arith, length-map ps (λ (p : Placement). p.rig)) in
    (λ t. set c.loop-j.out (sym (zero-add j) t) (sym (get_or-map (λ (p : Placement). p.rig) ps j nobody) t))
    ∙ sets_more out 0 (rigs ps) j 0 inside c.loop-j.invariant

pub returns : goal.returns
returns c = grind (arith, length-map, take_all, sets_over)
