-- What set-up gave, with the marks, is what the contents give.
use Rattle.std.proofs.Common.{length, map, sym, ap, ◌∙◌, Result}
use Rattle.text.proofs.Choices.{if_yes, if_no}
use Rattle.record.specs.Updates.{with_own, with_marks}
use Rattle.text.specs.Outcomes.{CallResult}
use Rattle.record.specs.declared.types.Device.{Device}
use Rattle.record.proofs.FactsTold.{legal_is}
use Rattle.record.proofs.Started.{started_legal}
use Rattle.record.specs.Legal.{is_legal}
use Rattle.stored.specs.Loading.{mark_room}
use Rattle.stored.specs.declared.error.LoadError.{LoadError}
use Rattle.text.specs.Flags.{is_raised}
use Rattle.stored.specs.Views.{marks_said, said_of}
use Rattle.stored.proofs.Cases.{contents_tested}
use Rattle.stored.proofs.form.Form.load_in.Goals as goal

abbrev says_of : CallResult LoadError (Unit {0}) Device → Result (Unit {0}) LoadError
says_of r = r.says

pub enable-requires : goal.enable-requires
enable-requires c =
    let set = c.in_ok-start.ensures in
    (legal_is _).0 (ap is_legal set.made ∙ started_legal (said_of c.args.self.now).settings (sym set.taken))

pub returns-then-not-enable : goal.returns-then-not-enable
returns-then-not-enable c =
    let f = c.args.self.now in
    let said = ap (marks_said (length (said_of f).settings.lamps)) c.in-Some.is in
    let set = c.in_ok-start.ensures in
    let tested = contents_tested (said_of f).settings (sym set.taken) set.made said c.enable.ensures.legal in
    record { says = sym (ap says_of (tested ∙ if_no _ _ c.if-not-enable.true)); device = tt }

pub returns : goal.returns
returns c =
    let f = c.args.self.now in
    let said = ap (marks_said (length (said_of f).settings.lamps)) c.in-Some.is in
    let set = c.in_ok-start.ensures in
    let tested = contents_tested (said_of f).settings (sym set.taken) set.made said c.enable.ensures.legal in
    let loaded = tested ∙ if_yes _ _ c.if-not-enable.false in
    record {
      says = sym (ap says_of loaded);
      device = c.enable.ensures.device c.if-not-enable.false
          ∙ ap (λ (d : Device). with_own d (with_marks d.own (mark_room (map is_raised c.in-Some.marks.now)))) set.made
          ∙ sym (ap (λ (r : CallResult LoadError (Unit {0}) Device). r.leaves) loaded);
    }
