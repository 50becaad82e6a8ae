-- The tests are the rules that concern it, in their order.
use Rattle.std.proofs.Common.{sym, ◌∙◌}
use Rattle.std.proofs.lemmas.Bool.{false≢true}
use Rattle.day.proofs.Keeping.{keeps_push, has_rig_last, in_time_last, apart_last}
use Rattle.day.proofs.Placement.is_joining.Goals as goal
use Rattle.day.proofs.Placement.is_joining.Goals.{then-has_rig, else-has_rig, then-is_in_time, else-is_in_time}

pub returns-then-is_free : goal.returns-then-is_free
returns-then-is_free c = (
  λ t. elim c.if-is_in_time.branch [
    | then-is_in_time w ↦ elim c.if-has_rig.branch [
      | then-has_rig u ↦ keeps_push _ _ _ c.requires.keeping (c.has_rig.ensures.0 u.if-has_rig.true)
          (u.is_in_time.ensures.0 (sym u.value-is ∙ w.if-is_in_time.true))
          (w.is_free.ensures.0 (sym w.value-is ∙ c.if-is_free.true)) (c.is_lasting.ensures.0 t)
      | else-has_rig u ↦ absurd (false≢true (sym u.if-has_rig.false ∙ sym u.value-is ∙ w.if-is_in_time.true))
    ]
    | else-is_in_time w ↦ absurd (false≢true (sym w.if-is_in_time.false ∙ sym w.value-is ∙ c.if-is_free.true))
  ],
  λ k. c.is_lasting.ensures.1 (k.lasting c.args.self.rig),
)

pub returns-else-is_free : goal.returns-else-is_free
returns-else-is_free c = (
  λ t. absurd (false≢true (sym c.if-is_free.false ∙ t)),
  λ k. elim c.if-is_in_time.branch [
    | then-is_in_time w ↦ w.value-is ∙ w.is_free.ensures.1 (apart_last _ _ _ k)
    | else-is_in_time w ↦ elim c.if-has_rig.branch [
      | then-has_rig u ↦ absurd (false≢true
          (sym w.if-is_in_time.false ∙ u.value-is ∙ u.is_in_time.ensures.1 (in_time_last _ _ _ k)))
      | else-has_rig u ↦ absurd (false≢true
          (sym u.if-has_rig.false ∙ c.has_rig.ensures.1 (has_rig_last _ _ _ k)))
    ]
  ],
)
