-- The mutes of video and audio (RULES, Commands; PJLink 1.04, 4.6).
--   mutes_text m     the bytes of the mutes m: 11 video only, 21 audio only, 31 both, 30 neither
--   mutes_read s     the mutes at the front of s
-- Assumes nothing.
use Rattle.std.specs.Prelude.{ℕ, Bool, true, false, List, [], ◌∷◌, Option, codes}
use Rattle.words.specs.Codec.{first_spelled}
use Rattle.words.specs.declared.mutes.Mutes.{Mutes}

abbrev pub halves_text : Bool → Bool → List ℕ
halves_text true false = codes "11"
halves_text false true = codes "21"
halves_text true true = codes "31"
halves_text false false = codes "30"

abbrev pub mutes_text : Mutes → List ℕ
mutes_text m = halves_text m.video m.audio

abbrev pub mutes_of : Bool → Bool → Mutes
mutes_of video audio = record { video = video; audio = audio }

abbrev pub all_mutes : List Mutes
all_mutes = mutes_of true false ∷ mutes_of false true ∷ mutes_of true true ∷ mutes_of false false ∷ []

abbrev pub mutes_read : List ℕ → Option (Mutes × List ℕ)
mutes_read s = first_spelled mutes_text all_mutes s
