use Rattle.std.proofs.Common.{◌≡◌, refl, Ok}
use Rattle.pjlink.specs.declared.command.Half.TheVariants.{VideoHalf, AudioHalf}
use Rattle.pjlink.specs.declared.command.Command.TheVariants.{MuteSet}
use Rattle.record.specs.declared.types.Own.{Own}
use Rattle.meaning.proofs.Cases.{done_by}
use Rattle.meaning.proofs.Done.{done_or_okay}
use Rattle.meaning.proofs.theorems.what_a_request_leaves.Goals as goal

pub returns : goal.returns
returns c = record {
  unless_okay = done_or_okay;
  audio = λ s o w. done_by s o (Ok (MuteSet VideoHalf w)) (λ (k : Own). k.audio_muted ≡ o.audio_muted) refl (λ p. refl);
  video = λ s o w. done_by s o (Ok (MuteSet AudioHalf w)) (λ (k : Own). k.video_muted ≡ o.video_muted) refl (λ p. refl);
}
