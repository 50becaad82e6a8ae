use Rattle.std.proofs.Common.{arith}
use Rattle.device.proofs.Legal.{parts_ready, taken_back}
use Rattle.device.proofs.calls.receive.Goals as goal

pub take_in-taken-requires-clause-ready : goal.take_in-taken-requires-clause-ready
take_in-taken-requires-clause-ready c = parts_ready c.args.legal.now.device.now c.args.legal.now.legal

pub invariant_of-legal-2 : goal.invariant_of-legal-2
invariant_of-legal-2 c =
    record {
      legal =
          taken_back c.args.legal.now.device.now c.args.legal.now.legal c.args.place c.args.bytes.now _ _ (omega arith)
          (grind arith) c.take_in-taken.ensures.own c.take_in-taken.ensures.connection;
    }
