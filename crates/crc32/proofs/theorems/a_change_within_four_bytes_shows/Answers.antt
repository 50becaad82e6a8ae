-- What is lent are bytes.
use Rattle.std.proofs.Common.{arith}
use Rattle.crc32.proofs.Changes.{change_shows}
use Rattle.crc32.proofs.theorems.a_change_within_four_bytes_shows.Goals as goal

pub returns : goal.returns
returns c =
    change_shows c.args.before.now c.args.bytes.now c.args.others.now c.args.behind.now
    (λ k. omega (arith, c.type_inv.before k)) (λ k. omega (arith, c.type_inv.bytes k))
    (λ k. omega (arith, c.type_inv.others k)) (λ k. omega (arith, c.type_inv.behind k))
