-- Each name passed is kept at its place, in a room of which no other place has one.
use Rattle.std.proofs.Common.{arith}
use Rattle.text.proofs.RoomsFilled.{none_copied}
use Rattle.record.proofs.CutNames.{none_cut, one_cut, cut_there, cut_ends, cut_here}
use Rattle.record.proofs.NamesTold.{name_short, one_name_copied, all_names_copied}
use Rattle.setup.proofs.fill.keep_packed.Goals as goal

pub loop-i-init : goal.loop-i-init
loop-i-init c = (none_cut _ _, rw c.requires.empty (none_copied _ _ _))

pub bounds-lengths-i : goal.bounds-lengths-i
bounds-lengths-i c = cut_there _ _ c.requires.named c.loop-i-test.true

pub overflow_add-end : goal.overflow_add-end
overflow_add-end c =
    let ends = cut_ends _ _ c.requires.named c.loop-i-test.true c.loop-i.invariant.0 in
    omega arith

pub slice_bounds-name_of-end : goal.slice_bounds-name_of-end
slice_bounds-name_of-end c = cut_ends _ _ c.requires.named c.loop-i-test.true c.loop-i.invariant.0

pub name_of-requires : goal.name_of-requires
name_of-requires c =
    let here = cut_here _ _ c.requires.named c.loop-i-test.true c.loop-i.invariant.0 in
    grind (arith, here, name_short _ _ c.requires.named _ c.loop-i-test.true)

pub loop-i-preserved : goal.loop-i-preserved
loop-i-preserved c =
    let here = cut_here _ _ c.requires.named c.loop-i-test.true c.loop-i.invariant.0 in
    let ends = cut_ends _ _ c.requires.named c.loop-i-test.true c.loop-i.invariant.0 in (
      one_cut _ _ c.loop-i.invariant.0 (cut_there _ _ c.requires.named c.loop-i-test.true) ends,
      one_name_copied _ _ c.requires.named c.requires.few c.loop-i.invariant.1 c.loop-i-test.true
          (grind (arith, c.name_of.ensures, here)),
    )

pub returns : goal.returns
returns c = all_names_copied _ _ c.requires.named c.requires.few c.loop-i.invariant.1 c.loop-i-test.false
