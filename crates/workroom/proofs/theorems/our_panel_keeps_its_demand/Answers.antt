use Rattle.workroom.proofs.Cuts.{lengths_of, list_all_cutting}
use Rattle.workroom.proofs.PanelDemand.{our_panel_does}
use Rattle.workroom.proofs.ShowsWhatWasMeant.{the_panel_shows_what_was_meant}
use Rattle.workroom.proofs.theorems.our_panel_keeps_its_demand.Goals as goal

pub returns : goal.returns
returns c = record {
  panel = our_panel_does;
  shows_what_was_meant = the_panel_shows_what_was_meant;
  any_cuts = λ p ps. (lengths_of p ps, list_all_cutting p ps);
}
