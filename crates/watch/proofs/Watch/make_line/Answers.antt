-- A line that no LF ended, one that says nothing that stands there, and one that does.
use Rattle.std.proofs.Common.{◌≡◌, sym, ap, ◌∙◌, Ok}
use Rattle.floorlog.specs.KeptText.{kept_text, kept_line}
use Rattle.history.specs.Entries.{entry_seen}
use Rattle.recorded.specs.Chain.{entry_told}
use Rattle.watch.specs.States.{state_of}
use Rattle.watch.proofs.Strays.{unended_strays, misfit_strays, line_made}
use Rattle.watch.proofs.Watch.make_line.Goals as goal

pub returns-then-not-is_ended-clause-made : goal.returns-then-not-is_ended-clause-made
returns-then-not-is_ended-clause-made c =
    unended_strays (state_of c.args.self.now) c.args.log.now (kept_line c.args.line.now)
    (sym c.is_ended.ensures ∙ c.if-not-is_ended.true)

pub returns-in-Ok-clause-made : goal.returns-in-Ok-clause-made
returns-in-Ok-clause-made c =
    let d = c.args.self.now.tested.device in
    let text : c.text-in-Ok.result.now ≡ kept_text c.args.line.now = c.text-in-Ok.ensures in
    let told : entry_told c.args.log.now d (kept_text c.args.line.now) ≡ Ok (entry_seen c.in-Ok.entry)
    = ap (entry_told c.args.log.now d) (sym c.text.ensures) ∙ sym c.in-Ok.ensures in
    line_made (state_of c.args.self.now) c.args.log.now (kept_line c.args.line.now)
    (sym c.is_ended.ensures ∙ c.if-not-is_ended.false) told _ _ c.make.result c.make.ensures.made c.make.ensures.told
    (rw text at c.make.ensures.log)

pub returns-in-Err-clause-made : goal.returns-in-Err-clause-made
returns-in-Err-clause-made c =
    misfit_strays (state_of c.args.self.now) c.args.log.now (kept_line c.args.line.now)
    (sym c.is_ended.ensures ∙ c.if-not-is_ended.false)
    (ap (entry_told c.args.log.now c.args.self.now.tested.device) (sym c.text.ensures) ∙ sym c.in-Err.ensures)
