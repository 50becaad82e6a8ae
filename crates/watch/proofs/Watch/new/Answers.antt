use Rattle.watch.proofs.Sound.{is_sound-watching_from}
use Rattle.watch.proofs.Watch.new.Goals as goal

pub invariant_of-result : goal.invariant_of-result
invariant_of-result c = record { sound = is_sound-watching_from _ }
