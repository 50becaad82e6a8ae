-- The parameter that says something is its row of the table: for those above, to whom it is shut.
-- Assumes nothing.
use Rattle.std.proofs.Common.{◌≡◌, refl}
use Rattle.pjlink.specs.Said.{Said, said_text, said_bytes}

pub said_row : (m : Said) → said_bytes m ≡ said_text m
unfolding said_bytes
said_row m = refl
