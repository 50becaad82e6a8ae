use Rattle.std.proofs.Common.{◌≡◌, sym, ap, ◌∙◌, subst, OnOk}
use Rattle.text.specs.Outcomes.{CallResult}
use Rattle.record.specs.declared.types.Device.{Device}
use Rattle.stored.specs.Form.{form}
use Rattle.stored.specs.declared.error.LoadError.{LoadError}
use Rattle.stored.proofs.Cases.{loaded_whole, none_over}
use Rattle.stored.proofs.loading.read_in.Goals as goal

pub returns : goal.returns
returns c =
    let ours = sym c.is_other_version.ensures ∙ c.if-is_other_version.false in
    let whole =
    loaded_whole c.args.bytes.now ours (ap form (sym c.new-reader.ensures) ∙ c.in_ok-form.ensures)
    (none_over _ _ c.in_ok-end.ensures) in
    record {
      says = c.load_in.ensures.says ∙ sym (ap (λ (r : CallResult LoadError (Unit {0}) Device). r.says) whole);
      device = subst
          (λ (r : CallResult LoadError (Unit {0}) Device). OnOk c.load_in.result (c.load_in.new.device ≡ r.leaves))
          (sym whole) c.load_in.ensures.device;
    }
