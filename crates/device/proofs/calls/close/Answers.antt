use Rattle.std.proofs.Common.{rules, ◌≡◌, true, subst}
use Rattle.record.proofs.Spelt.{closed_spelt}
use Rattle.record.specs.Legal.{is_legal}
use Rattle.record.specs.Places.{with_place}
use Rattle.record.specs.declared.types.Connection.{Connection}
use Rattle.device.specs.Calls.{closed_by}
use Rattle.device.proofs.Legal.{closed_kept}
use Rattle.device.proofs.calls.close.Goals as goal

pub returns-clause-device : goal.returns-clause-device
unfolding closed_by
returns-clause-device c = rw closed_spelt (search rules)

pub invariant_of-legal-2 : goal.invariant_of-legal-2
invariant_of-legal-2 c =
    let d = c.args.legal.now.device.now in
    record {
      legal =
          subst (λ (k : Connection). is_legal (with_place d d.own c.args.place k) ≡ true) closed_spelt
          (closed_kept d c.args.legal.now.legal c.args.place);
    }
