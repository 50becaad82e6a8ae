use Rattle.std.proofs.Common.{ap, refl}
use Rattle.panel.specs.Entries.{talk_of, shown_of}
use Rattle.panel.specs.StepTable.{answers}
use Rattle.panel.proofs.StepsByTable.{stray_steps, row_steps}
use Rattle.panel.proofs.theorems.only_a_reading_is_shown.Goals as goal

pub returns : goal.returns
returns c = record {
  stray_keeps = λ e l s. (ap talk_of (stray_steps e l s), ap shown_of (stray_steps e l s));
  reply_shows = λ e l c m u r. row_steps e l (answers c m u r);
  okay_keeps = λ s. refl;
  error_keeps = λ s n. refl;
  loss_keeps = λ e. refl;
  sending_keeps = λ e k. refl;
  unknown_at_first = λ s. refl;
}
