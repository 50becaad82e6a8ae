use Rattle.std.proofs.Common.{◌≡◌, ◌∙◌, sym, true, subst}
use Rattle.record.specs.Legal.{is_legal}
use Rattle.record.specs.declared.types.Device.{Device}
use Rattle.clock.proofs.InOneGo.{parts_pass}
use Rattle.clock.proofs.TimeLegal.{time_legal}
use Rattle.clock.proofs.pass.pass.Goals as goal

pub invariant_of-legal : goal.invariant_of-legal
invariant_of-legal c =
    let d = c.args.legal.now.device.now in
    record {
      legal =
          subst (λ (k : Device). is_legal k ≡ true)
          (parts_pass c.args.seconds d
          ∙ λ i. record { settings = d.settings; own = sym c.pass.ensures i; connections = sym c.age.ensures i })
          (time_legal c.args.seconds d c.args.legal.now.legal);
    }
