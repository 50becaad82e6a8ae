use Rattle.std.proofs.Common.{arith}
use Rattle.formfile.proofs.FormBegun.{begun_by_front, refused_by_front}
use Rattle.formfile.proofs.loaded.Goals as goal

pub returns-in-Ok-clause-by_form : goal.returns-in-Ok-clause-by_form
returns-in-Ok-clause-by_form c form e =
    begun_by_front c.args.bytes.now form c.in-Ok.device c.crc32.result (λ i h. omega (arith, c.type_inv.bytes i))
    c.in-Ok.ensures c.crc32.ensures e

pub returns-in-Err-clause-by_form : goal.returns-in-Err-clause-by_form
returns-in-Err-clause-by_form c form e =
    refused_by_front c.args.bytes.now form c.in-Err.error (λ i h. omega (arith, c.type_inv.bytes i)) c.in-Err.ensures e
