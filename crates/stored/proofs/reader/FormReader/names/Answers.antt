use Rattle.std.specs.List.{list_all}
use Rattle.std.proofs.Common.{ℕ, ◌-◌, ◌&&◌, List, length, sym, ap, subst, ◌∙◌, arith}
use Rattle.words.specs.Texts.{is_input_name}
use Rattle.record.proofs.CountedNames.{counted_none}
use Rattle.stored.specs.Sections.{texts}
use Rattle.stored.proofs.TextsRead.{TextsRead, none_read, one_read, front_counted, all_read}
use Rattle.stored.proofs.reader.FormReader.names.Goals as goal

pub loop-init : goal.loop-init
loop-init c = (
  subst (TextsRead c.self.inside.rest.now 0) c.self.view_is (none_read c.self.inside.rest.now),
  sym (ap (list_all is_input_name) (counted_none c.self.inside.rest.now)),
)

pub loop-preserved : goal.loop-preserved
loop-preserved c =
    let more = one_read c.loop.invariant.0 c.in_ok-name.ensures in (
      more.read,
      (λ j. c.loop.invariant.1 j && c.is_input_name-are_named.ensures j) ∙ sym (more.each is_input_name),
    )

pub invariant_of-result : goal.invariant_of-result
invariant_of-result c =
    let whole = c.self.inside.rest.now in
    let front =
    front_counted c.loop.invariant.0 (omega arith) (ap (λ (r : List ℕ). length whole - length r) c.self-2.view_is) in
    record { tested = c.loop.invariant.1 ∙ ap (list_all is_input_name) (sym front) }

pub returns : goal.returns
returns c =
    let whole = c.self.inside.rest.now in
    ap (texts c.args.count) (sym c.self.view_is)
    ∙ all_read c.loop.invariant.0 (omega arith) (ap (λ (r : List ℕ). length whole - length r) c.self-2.view_is)
