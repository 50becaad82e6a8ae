use Rattle.std.proofs.Common.{inl, inr, ap, refl}
use Rattle.command.specs.Asked.{asked_seen, text_seen}
use Rattle.program.specs.Joined.{joined_bytes, files_asked}
use Rattle.program.specs.Said.{IsSaid, unbegun_text}
use Rattle.program.proofs.Doing.{unbegun_so, named_or, saved_as, saved_begun}
use Rattle.program.proofs.run.tell.Goals as goal

pub returns-in-Err : goal.returns-in-Err
returns-in-Err g c =
    let said : IsSaid g.E.ByteSink.fails_with (g.E.ByteSink.contents c.args.errors.now)
    (g.E.ByteSink.contents c.unbegun-status.new.errors) (unbegun_text c.unwrap_or-name.result.now c.in-Err.why)
    = unbegun_so _ _ c.in-Err.why c.unbegun-status.ensures.said in
    inl (record {
      why = c.in-Err.why;
      begins = c.in-Err.ensures;
      said = rw (named_or c.args.command.now.form _ c.unwrap_or-name.result c.unwrap_or-name.ensures) at said;
      line = rw c.is_lined-lined.ensures at c.unbegun-status.ensures.line;
      status_is = c.unbegun-status.ensures.status;
    })

pub returns-in-Some : goal.returns-in-Some
returns-in-Some g c =
    let kept = c.keep_for_page.ensures in
    inr (record {
      begun = c.in-Ok.begun;
      begins = c.in-Ok.ensures;
      tells = inr (saved_begun g.W.ByteSink.fails_with g.E.ByteSink.fails_with
          (g.O.Opens.log_bytes c.args.outside.now) (g.O.Outside.form_bytes c.args.outside.now)
          (g.O.Outside.fresh c.args.outside.now) (g.O.Outside.stands c.args.outside.now)
          (g.P.Telling.told c.args.program.now) (g.P.Telling.ends c.args.program.now) (asked_seen c.args.command.now)
          c.in-Ok.begun c.in-Some.name.now _ _ (ap text_seen c.in-Some.is)
          (saved_as (ap (λ f. joined_bytes f (files_asked (asked_seen c.args.command.now))) kept.logs) kept.fresh
          kept.stands c.tell_saved.ensures) refl);
    })
