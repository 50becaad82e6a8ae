use Rattle.std.proofs.Common.{refl}
use Rattle.panel.specs.PanelCalls.{adding_rows, commanding_rows, projector_rows, added_to, command_at, stepped_at}
use Rattle.panel.specs.PanelCalls.{lost_at}
use Rattle.panel.proofs.Refusals.{refused_keeps, adding_number, commanding_number, hearing_number, losing_number}
use Rattle.panel.proofs.theorems.a_refusal_keeps_the_panel.Goals as goal

pub returns : goal.returns
unfolding added_to command_at stepped_at lost_at
returns c = record {
  adding = λ p s. refused_keeps p (adding_rows p s) _ refl;
  sending = λ p i k room. refused_keeps p (commanding_rows p i k room) _ refl;
  hearing = λ p i l. refused_keeps p (projector_rows p i) _ refl;
  losing = λ p i. refused_keeps p (projector_rows p i) _ refl;
  adding_number = adding_number;
  sending_number = commanding_number;
  hearing_number = hearing_number;
  losing_number = losing_number;
}
