use Rattle.std.proofs.Common.{List, ℕ, ◌+◌, ◌∙◌, sym, subst, arith}
use Rattle.text.proofs.FlagsTold.{raised_at, raised_many}
use Rattle.record.specs.Views.{marks_seen}
use Rattle.watch.proofs.Lamps.{GainedTo, none_gained, still, all_gained, one_gains, one_rests}
use Rattle.watch.proofs.burn.Goals.{then-is_enabled, else-is_enabled}
use Rattle.watch.proofs.burn.Goals as goal

pub overflow_add-burnt : goal.overflow_add-burnt
overflow_add-burnt c = omega (arith, still _ _ _ _ c.loop-k.invariant, c.requires c.loop-k.k)

pub loop-k-init : goal.loop-k-init
loop-k-init c = none_gained _ _ _ _

pub loop-k-preserved : goal.loop-k-preserved
loop-k-preserved c =
    let d = c.args.device.now in
    let Next : List ℕ → Type 0 =
    λ b. GainedTo c.args.n c.args.burnt.now (marks_seen d.own) d.settings.lamp_count b (c.loop-k.k + 1) in
    let marks = d.own.enabled in
    let seen = raised_at marks c.loop-k.k ∙ sym c.is_raised-is_enabled.ensures in
    elim c.if-is_enabled.branch [
      | then-is_enabled w ↦ subst Next (sym w.burnt-is)
          (one_gains _ _ _ _ c.loop-k.invariant (omega (arith, raised_many marks)) (omega arith) (omega arith)
          (seen ∙ w.if-is_enabled.true))
      | else-is_enabled w ↦ subst Next (sym w.burnt-is)
          (one_rests _ _ _ _ c.loop-k.invariant (omega (arith, raised_many marks)) (omega arith) (omega arith)
          (seen ∙ w.if-is_enabled.false))
    ]

pub returns : goal.returns
returns c = all_gained _ _ _ _ c.loop-k.invariant (omega (arith, c.loop-k-test.false, c.loop-k.auto.k-end))
