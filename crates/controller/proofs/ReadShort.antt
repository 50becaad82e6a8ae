-- Whatever is read of a line has a parameter of at most 128 bytes.
-- Assumes nothing.
use Rattle.std.proofs.Common.{ℕ, ◌≤◌, ap, List, arith, length}
use Rattle.pjlink.specs.declared.command.Command.{Command}
use Rattle.pjlink.specs.Said.{Said, nothing, said_bytes, parameter_most}
use Rattle.pjlink.proofs.ReadSound.{CanRead, read_sound}
use Rattle.pjlink.proofs.SaidPlain.{said_within_most}
use Rattle.pjlink.proofs.SaidRows.{said_row}
use Rattle.controller.specs.Reading.{read_reply}
use Rattle.controller.proofs.Cases.{reply_by}

nothing_short : length (said_bytes nothing) ≤ parameter_most
nothing_short = omega (arith, ap (λ (l : List ℕ). length l) (said_row nothing))

read_short : {c : Command} {p : List ℕ} {m : Said} → CanRead c p m → length (said_bytes m) ≤ parameter_most
read_short h = grind (arith, said_within_most, nothing_short)

pub reading_short : (c : Command) (l : List ℕ) → length (said_bytes (read_reply c l).said) ≤ parameter_most
reading_short c l =
    reply_by c l (λ r. length (said_bytes r.said) ≤ parameter_most) (λ e. nothing_short) (λ e f. nothing_short)
    (λ f b. nothing_short) (λ f b. read_short (read_sound c _))
