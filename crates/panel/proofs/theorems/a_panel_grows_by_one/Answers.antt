use Rattle.panel.proofs.PanelsLegal.{none_legal}
use Rattle.panel.proofs.OnlyItsEntry.{addition_keeps_others}
use Rattle.panel.proofs.Unused.{past_count_blank}
use Rattle.panel.proofs.theorems.a_panel_grows_by_one.Goals as goal

pub returns : goal.returns
returns c = record {
  none_legal = none_legal;
  blank_past = λ p i legal past inside. past_count_blank p legal i past inside;
  others_stay = addition_keeps_others;
}
