use Rattle.std.proofs.Common.{◌≡◌, true, sym, subst}
use Rattle.record.specs.Legal.{is_legal}
use Rattle.record.specs.Places.{with_place}
use Rattle.record.specs.declared.types.Connection.{Connection}
use Rattle.device.proofs.Legal.{greeted_kept}
use Rattle.device.proofs.calls.open.Goals as goal

pub invariant_of-legal-2 : goal.invariant_of-legal-2
invariant_of-legal-2 c =
    let d = c.args.legal.now.device.now in
    record {
      legal =
          subst (λ (k : Connection). is_legal (with_place d d.own c.lowest_closed-place.result k) ≡ true)
          (sym c.greet.ensures) (greeted_kept d c.args.legal.now.legal c.lowest_closed-place.result c.args.random);
    }
