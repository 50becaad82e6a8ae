use Rattle.std.proofs.Common.{ap, sym, ◌∙◌}
use Rattle.record.specs.Record.{name_of}
use Rattle.text.proofs.RoomsFilled.{none_copied}
use Rattle.record.proofs.CountedNames.{none_passed, name_here, one_passed}
use Rattle.record.proofs.NamesTold.{name_short, one_name_copied, all_names_copied}
use Rattle.setup.proofs.fill.keep_counted.Goals as goal

pub loop-i-init : goal.loop-i-init
loop-i-init c = (none_passed _ _, rw c.requires.empty (none_copied _ _ _))

pub name_of-requires : goal.name_of-requires
name_of-requires c =
    let here = name_here c.loop-i.invariant.0 c.loop-i-test.true in
    rw (c.first_counted.ensures.name, ← here) (name_short _ _ c.requires.named _ c.loop-i-test.true)

pub loop-i-preserved : goal.loop-i-preserved
loop-i-preserved c =
    let here = name_here c.loop-i.invariant.0 c.loop-i-test.true in (
      rw c.first_counted.ensures.left (one_passed c.loop-i.invariant.0 c.loop-i-test.true),
      one_name_copied _ _ c.requires.named c.requires.few c.loop-i.invariant.1 c.loop-i-test.true
          (c.name_of.ensures ∙ ap name_of (c.first_counted.ensures.name ∙ sym here)),
    )

pub returns : goal.returns
returns c = all_names_copied _ _ c.requires.named c.requires.few c.loop-i.invariant.1 c.loop-i-test.false
