use Rattle.std.proofs.Common.{◌≡◌, rules}
use Rattle.reasons.specs.Reasons.{number_text}
use Rattle.floorlog.proofs.UnplayedFits.{put_after}
use Rattle.floorlog.proofs.unplayed.RefusedCall.put_words.Goals as goal

pub returns : goal.returns
returns c =
    let words : c.as_bytes.result.now ≡ number_text c.args.self.now.number = search rules in
    put_after c.args.out.now.items _ _ c.put_text.ensures
    (put_after c.put_text.new.out.items _ _ (rw words at c.put_text-2.ensures)
    (put_after c.put_text-2.new.out.items _ _ c.put_text-3.ensures
    (put_after c.put_text-3.new.out.items _ _ c.put_number.ensures c.put_text-4.ensures)))
