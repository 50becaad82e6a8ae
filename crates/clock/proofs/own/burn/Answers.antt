use Rattle.std.proofs.Common.{◌∙◌, ap, Bool, if◌then◌else◌, rules, slice_index_or, sym}
use Rattle.text.proofs.FlagsTold.{raised_at, raised_many}
use Rattle.clock.specs.Second.{times, one_more}
use Rattle.clock.proofs.ChangedWhere.{none_changed, one_changed_there}
use Rattle.clock.proofs.own.burn.Goals as goal

pub loop-k-init : goal.loop-k-init
loop-k-init c = none_changed _ _ _ _

pub loop-k-preserved : goal.loop-k-preserved
loop-k-preserved c =
    let marks = c.args.enabled.now in
    let x = slice_index_or c.loop-k.lamps c.loop-k.k 0 in
    let marked = c.is_raised.ensures ∙ sym (raised_at marks c.loop-k.k) in
    one_changed_there _ _ _ _ c.loop-k.invariant (search (rules, raised_many marks)) (search rules) (search rules)
    (search rules)
    (c.lamp_if.ensures ∙ ap (λ (m : Bool). if m then times one_more c.args.n x else x) marked)
