use Rattle.std.proofs.Common.{sym, subst, ◌≡◌, ◌++◌}
use Rattle.floorlog.specs.Unplayed.{refused_calls_text}
use Rattle.floorlog.proofs.UnplayedFits.{put_after}
use Rattle.floorlog.proofs.unplayed.Unplayed.put_refused.Goals as goal

pub returns : goal.returns
returns c =
    let old = c.args.out.now.items in
    subst (λ first. c.put_words.new.out.items ≡ old ++ refused_calls_text c.args.self.now.refused first)
    (sym c.in-Some.is)
    (put_after old _ _ c.put_text.ensures (put_after c.put_text.new.out.items _ _ c.put_long.ensures
    (put_after c.put_long.new.out.items _ _ c.put_text-2.ensures
    (put_after c.put_text-2.new.out.items _ _ c.put_long-2.ensures c.put_words.ensures))))
