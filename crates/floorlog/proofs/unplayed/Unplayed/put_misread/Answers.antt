use Rattle.std.proofs.Common.{sym, subst, ◌≡◌, ◌++◌}
use Rattle.floorlog.specs.Unplayed.{misread_text}
use Rattle.floorlog.proofs.UnplayedFits.{put_after}
use Rattle.floorlog.proofs.unplayed.Unplayed.put_misread.Goals as goal

pub returns-clause-text : goal.returns-clause-text
returns-clause-text c =
    let old = c.args.out.now.items in
    subst (λ first. c.push.new.self.items ≡ old ++ misread_text c.args.self.now.misread first) (sym c.in-Some.is)
    (put_after old _ _ c.put_text.ensures (put_after c.put_text.new.out.items _ _ c.put_long.ensures
    (put_after c.put_long.new.out.items _ _ c.put_text-2.ensures
    (put_after c.put_text-2.new.out.items _ _ c.put_long-2.ensures
    (put_after c.put_long-2.new.out.items _ _ (rw c.words.ensures.words at c.put_text-3.ensures)
    c.push.ensures.items)))))
