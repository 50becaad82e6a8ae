use Rattle.workroom.proofs.WrongPanelsFall.{takes_foreign_falls, ends_on_malformed_falls, keeps_after_erra_falls}
use Rattle.workroom.proofs.WrongPanelsFall.{stray_count_wraps_falls, shows_late_falls, counts_nothing_falls}
use Rattle.workroom.proofs.WrongPanelsFall.{shows_no_reply_falls, forgets_at_addition_falls, tells_the_password_falls}
use Rattle.workroom.proofs.WrongPanelsFall.{refuses_what_it_does_falls, hides_the_wrong_password_falls}
use Rattle.workroom.proofs.theorems.wrong_panels_fall.Goals as goal

pub returns : goal.returns
returns c = record {
  takes_a_foreign_reply = takes_foreign_falls;
  ends_on_a_malformed_line = ends_on_malformed_falls;
  keeps_readings_after_erra = keeps_after_erra_falls;
  wraps_its_count_of_strays = stray_count_wraps_falls;
  shows_a_late_reply = shows_late_falls;
  counts_nothing = counts_nothing_falls;
  shows_nothing_it_accepts = shows_no_reply_falls;
  forgets_at_an_addition = forgets_at_addition_falls;
  tells_the_password = tells_the_password_falls;
  refuses_what_it_does = refuses_what_it_does_falls;
  hides_the_wrong_password = hides_the_wrong_password_falls;
}
