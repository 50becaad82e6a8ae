use Rattle.std.proofs.Common.{arith}
use Rattle.device.proofs.CommandsReceived.{open_again}
use Rattle.device.proofs.Outsiders.{failed_keeps_record, failed_never_replies}
use Rattle.device.proofs.Untouched.{receiving_keeps}
use Rattle.device.proofs.theorems.what_receiving_keeps.Goals as goal

pub returns : goal.returns
returns c = grind (arith, receiving_keeps, open_again, failed_keeps_record, failed_never_replies)
