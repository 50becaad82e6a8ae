-- What is put is what the record shows, and no longer than a stated line can have it.
use Rattle.std.proofs.Common.{◌≡◌, ◌≤◌, ◌∙◌, ap, length, rules, arith, List, ℕ}
use Rattle.text.specs.Outcomes.{with_length}
use Rattle.history.specs.Entries.{stated, shown_most}
use Rattle.history.specs.Shown.{device_shown}
use Rattle.history.specs.Recording.{recorded_by, stated_next}
use Rattle.history.proofs.Chain.{recorded_if}
use Rattle.history.proofs.Served.{served_ok}
use Rattle.history.proofs.ShownPlain.{shown_sayable}
use Rattle.history.proofs.recorder.Recorder.stated.Goals as goal

pub returns-clause-served : goal.returns-clause-served
returns-clause-served c legal room free =
    let r = c.args.self.now in
    let d = c.args.device.now in
    let n = length c.args.out.now in
    let shown : c.as_slice.result.now ≡ device_shown d = search rules in
    let short : length (device_shown d) ≤ shown_most = grind (arith, c.put_shown.ensures.bound) in
    served_ok c.record.result (recorded_by r (stated_next r (device_shown d)) n)
    (c.record.ensures.says ∙ ap (λ (s : List ℕ). with_length (recorded_by r (stated r.lines r.sum s) n)) shown)
    (recorded_if r (stated_next r (device_shown d)) n room (shown_sayable d r.lines r.sum short) free)
