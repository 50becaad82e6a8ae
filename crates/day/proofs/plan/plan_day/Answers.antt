use Rattle.std.proofs.Common.{◌+◌, List, refl, sym, subst, slice_index_or, All}
use Rattle.std.proofs.lemmas.Option.{slice_get-get_or}
use Rattle.day.specs.Days.{IsJob}
use Rattle.day.specs.Rules.{Keeps}
use Rattle.day.specs.Plans.{IsLowestRig, FindsNone}
use Rattle.day.specs.declared.Placement.{Placement}
use Rattle.day.proofs.Greedily.{nobody, Going, going_more, greedy_kept, all_in_range}
use Rattle.day.proofs.plan.plan_day.Goals as goal

pub lowest_rig-requires-clause-all_in_range : goal.lowest_rig-requires-clause-all_in_range
lowest_rig-requires-clause-all_in_range c =
    let day = c.if-not-is_day.ensures.0 refl in
    subst (λ (s : List Placement). All (λ p. IsJob p.job) s) (sym c.placements.ensures)
    (all_in_range _ _ _ c.loop-j.invariant.before day.all_jobs)

pub lowest_rig-requires-clause-keeping : goal.lowest_rig-requires-clause-keeping
lowest_rig-requires-clause-keeping c =
    subst (Keeps c.args.rigs.now) (sym c.placements.ensures) (greedy_kept _ _ c.loop-j.invariant.greedy)

pub returns-in-None : goal.returns-in-None
returns-in-None c = (
  c.if-not-is_day.ensures.0 refl,
  record {
    placed = c.loop-j.plan;
    before = c.loop-j.invariant.before;
    greedy = c.loop-j.invariant.greedy;
    job = slice_index_or c.args.jobs.now c.loop-j.j nobody.job;
    next = slice_get-get_or c.args.jobs.now c.loop-j.j nobody.job c.loop-j-test.true;
    none = subst
        (λ (s : List Placement). FindsNone c.args.rigs.now s (slice_index_or c.args.jobs.now c.loop-j.j nobody.job))
        c.placements.ensures c.in-None.ensures;
  },
)

pub loop-j-preserved : goal.loop-j-preserved
loop-j-preserved c =
    subst (λ (s : List Placement). Going c.args.jobs.now c.args.rigs.now s (c.loop-j.j + 1)) (sym c.push.ensures)
    (going_more _ _ c.loop-j.invariant c.loop-j-test.true nobody.job
    (subst
    (λ (s : List Placement).
    IsLowestRig c.args.rigs.now s (slice_index_or c.args.jobs.now c.loop-j.j nobody.job) c.in-Some.rig)
    c.placements.ensures c.in-Some.ensures))
