use Rattle.std.proofs.Common.{sym, ◌∙◌}
use Rattle.panel.proofs.Cases.{heard_as_told}
use Rattle.panel.proofs.types.Panel.hear.Goals as goal

pub returns-clause-says : goal.returns-clause-says
returns-clause-says c =
    heard_as_told _ _ _ (sym c.is_legal.ensures ∙ c.if-not-is_legal.false) c.if-self-projector.false _ _
    c.hear.ensures.heard
