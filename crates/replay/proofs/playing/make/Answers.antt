-- a line that no LF ended does not belong, nor one that says nothing that stands there; what it says is made again
use Rattle.std.proofs.Common.{refl, sym, ap, ◌∙◌, List, ℕ}
use Rattle.floorlog.specs.KeptText.{kept_line}
use Rattle.history.specs.Entries.{entry_seen}
use Rattle.recorded.specs.Chain.{entry_told, log_made}
use Rattle.recorded.proofs.Followed.{line_unended, line_misfit}
use Rattle.replay.proofs.LinesPlayed.{made_so}
use Rattle.replay.proofs.playing.make.Goals as goal

pub returns-then-not-is_ended : goal.returns-then-not-is_ended
returns-then-not-is_ended c = record {
  told = line_unended c.args.log.now c.args.t.now.device (kept_line c.args.line.now)
      (sym c.is_ended.ensures ∙ c.if-not-is_ended.true);
  settings = refl;
  own = refl;
}

pub returns-in-Ok : goal.returns-in-Ok
returns-in-Ok c =
    let r = c.args.log.now in
    let d = c.args.t.now.device in
    let e = entry_seen c.in-Ok.entry in
    made_so r d (kept_line c.args.line.now) e (sym c.is_ended.ensures ∙ c.if-not-is_ended.false)
    (ap (entry_told r d) (sym c.text.ensures) ∙ sym c.in-Ok.ensures) c.make.result c.make.new.log
    c.make.new.tested.device c.args.reply.now c.make.new.reply c.make.ensures.told
    (c.make.ensures.log ∙ ap (λ (t : List ℕ). log_made r d e t) c.text-in-Ok.ensures) c.make.ensures.device
    c.make.ensures.reply

pub returns-in-Err : goal.returns-in-Err
returns-in-Err c =
    let r = c.args.log.now in
    let d = c.args.t.now.device in record {
      told = line_misfit r d (kept_line c.args.line.now) (sym c.is_ended.ensures ∙ c.if-not-is_ended.false)
          (ap (entry_told r d) (sym c.text.ensures) ∙ sym c.in-Err.ensures);
      settings = refl;
      own = refl;
    }
