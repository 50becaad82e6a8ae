-- What the form says is lent as it is.
use Rattle.std.proofs.Common.{◌/◌, length, take, ap, ◌∙◌, arith}
use Rattle.record.specs.Wanted.{wanted_in}
use Rattle.text.specs.Outcomes.{CallResult}
use Rattle.record.specs.SetUp.{set_up}
use Rattle.record.specs.declared.set_up_error.SetUpError.{SetUpError}
use Rattle.record.specs.declared.types.Device.{Device}
use Rattle.text.proofs.Parts.{first_part}
use Rattle.stored.specs.Views.{said_of}
use Rattle.stored.proofs.Fields.{room_read}
use Rattle.stored.proofs.Cases.{set_up_sets}
use Rattle.stored.proofs.form.Form.start.Goals as goal

pub returns : goal.returns
returns c =
    let f = c.args.self.now in
    let n = length f.lamps.now / 4 in
    let lamps =
    first_part c.seconds_of-seconds.result n
    ∙ ap (take n) c.seconds_of-seconds.ensures
    ∙ room_read n f.lamps.now in
    let e = c.in-Some.ensures in
    let w = (said_of f).settings in
    let made =
    ap set_up
    (λ j. wanted_in (e.number j) f.name.now f.maker.now f.model.now f.other.now f.password.now f.inputs.now (lamps j)
    f.warm f.cool (e.serial j) (e.version j) (e.names j)) in
    let sets =
    set_up_sets w c.set_up_in.result c.set_up_in.new.device
    (c.set_up_in.ensures.says ∙ ap (λ (r : CallResult SetUpError (Unit {0}) Device). r.says) made)
    (c.set_up_in.ensures.device ∙ ap (λ (r : CallResult SetUpError (Unit {0}) Device). r.leaves) made) in
    let mapped = c.map_err.ensures in
    record {
      taken = grind (arith, sets.taken, mapped.cases, mapped.variant);
      made = grind (arith, sets.made, mapped.cases, mapped.variant);
      refused = grind (arith, mapped.cases, mapped.variant);
    }
