-- Of what a projector says to POWR, only OK has the bytes of OK, in any case of letters.
--   NotOkay m      the parameter that says m is not OK
-- Assumes nothing.
use Rattle.std.proofs.Common.{arith, ℕ, ◌≡◌, refl, false, ◌++◌, codes}
use Rattle.text.specs.Scans.{is_same_by}
use Rattle.words.specs.Bytes.{upper_of}
use Rattle.pjlink.specs.Said.{Said, refused, power_is, nothing, said_bytes}
use Rattle.words.specs.declared.power.PowerStatus.{PowerStatus}

abbrev pub NotOkay : Said → Type 0
NotOkay m = is_same_by upper_of (said_bytes m ++ codes "\r") (codes "OK\r") ≡ false

pub refusal_not_okay : (n : ℕ) → NotOkay (refused n)
unfolding said_bytes
refusal_not_okay n = refl

pub power_not_okay : (p : PowerStatus) → NotOkay (power_is p)
unfolding said_bytes
power_not_okay p = grind arith

pub nothing_not_okay : NotOkay nothing
unfolding said_bytes
nothing_not_okay = refl
