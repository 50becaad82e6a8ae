-- The law of the codec of a half that AVMT mutes. The name of a trait's law has to be in specs/, so this law is here;
-- no reader has to believe it.
-- Assumes nothing.
use Rattle.std.proofs.Common.{true, refl}
use Rattle.words.specs.Codec.{Codec, Plain, Ends}
use Rattle.words.specs.Combinations.{named_codec}
use Rattle.pjlink.specs.Commands.{half_code, all_halves, half_text, half_read}
use Rattle.pjlink.specs.declared.command.Half.TheVariants.{VideoHalf, AudioHalf, BothHalves}

pub half_codec : Codec Ends (λ _. true) half_text (Plain (λ _. true) half_text) half_read
half_codec = named_codec half_code all_halves (elim [ VideoHalf ↦ refl | AudioHalf ↦ refl | BothHalves ↦ refl ])
