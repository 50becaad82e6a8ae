-- The rows are those of the RFC's table.
use Rattle.std.proofs.Common.{◌≡◌}
use Rattle.digest.specs.Rounds.{shift_of}
use Rattle.digest.proofs.Tables.{shift_by_rows_lem, shift_in_word}
use Rattle.digest.proofs.block.rounds.shift.Goals as goal

pub returns : goal.returns
returns c =
    let rows = shift_by_rows_lem c.args.i c.requires in
    let fits = shift_in_word c.args.i c.requires in
    let same : c.by_round.result ≡ shift_of c.args.i = cc in
    record { of_the_table = same; in_word = (rw same fits.0, rw same fits.1) }
