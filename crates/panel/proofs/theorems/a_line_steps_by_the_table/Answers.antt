use Rattle.panel.proofs.StepsByTable.{steps_by_the_table, row_steps, one_step}
use Rattle.panel.proofs.theorems.a_line_steps_by_the_table.Goals as goal

pub returns : goal.returns
returns c = record {
  steps_by_the_table = steps_by_the_table;
  row_steps = λ e l f. row_steps e l;
  one_step = λ e l f g. one_step e l;
}
