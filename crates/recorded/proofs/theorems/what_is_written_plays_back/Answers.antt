-- What is lent are bytes.
use Rattle.std.proofs.Common.{arith}
use Rattle.recorded.proofs.Written.{written_plays, cut_plays}
use Rattle.recorded.proofs.theorems.what_is_written_plays_back.Goals as goal

pub returns-clause-whole : goal.returns-clause-whole
returns-clause-whole c = written_plays c.args.form.now (λ k. omega (arith, c.type_inv.form k))

pub returns-clause-cut : goal.returns-clause-cut
returns-clause-cut c = cut_plays c.args.form.now (λ k. omega (arith, c.type_inv.form k))
