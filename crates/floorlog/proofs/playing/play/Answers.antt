-- the line's event is played, and what is printed for it is put
use Rattle.std.proofs.Common.{ap, ◌∙◌, subst}
use Rattle.textio.specs.Fronts.{WritesText}
use Rattle.floorlog.specs.Events.{LogEvent}
use Rattle.floorlog.specs.Doing.{event_result, printed_line}
use Rattle.floorlog.proofs.playing.play.Goals as goal

pub returns-clause-device : goal.returns-clause-device
returns-clause-device g c =
    c.print-answer.ensures.device ∙ ap (λ (e : LogEvent). (event_result c.args.t.now.device e).leaves) c.event.ensures

pub returns-clause-text : goal.returns-clause-text
returns-clause-text g c =
    let text = c.print-answer.ensures.printed
    ∙ ap (λ (e : LogEvent). printed_line c.args.number e (event_result c.args.t.now.device e)) c.event.ensures in
    subst (WritesText _ _ _ _) (c.deref.ensures.0 ∙ text) c.put.ensures
