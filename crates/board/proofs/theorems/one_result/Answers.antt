use Rattle.text.proofs.OneResult.{one_result}
use Rattle.board.proofs.OneOfLists.{one_flat_verdict, one_flat_plan, one_report}
use Rattle.board.proofs.theorems.one_result.Goals as goal

pub returns : goal.returns
returns c = record {
  command_written = λ k secured random password out r s m n p q. (one_result p.0 q.0, one_result p.1 q.1);
  reply_read = λ k l r s. one_result;
  greeting_read = λ l r s. one_result;
  verdict = one_flat_verdict;
  plan = one_flat_plan;
  comparison = one_report;
  panel_made = λ r s. one_result;
  projector_added = λ p password r s. one_result;
  command_sent = λ p i k out r s m n q t. (one_result q.0 t.0, one_result q.1 t.1);
  line_heard = λ p i l r s. one_result;
  connection_lost = λ p i r s. one_result;
  setting = λ w r s. one_result;
}
