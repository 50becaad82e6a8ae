-- THE PANEL SHOWS WHAT THE PROJECTOR MEANT: the theorem of specs/ShowsWhatWasMeant, for our panel.
-- Assumes nothing.
use Rattle.panel.specs.AnyPanel.{ours_panel}
use Rattle.workroom.specs.ShowsWhatWasMeant.{ShowsWhatWasMeant}
use Rattle.workroom.proofs.CommandsAnswered.{asked_open, gets_no_reply}
use Rattle.workroom.proofs.Connecting.{added_apart, greeted_joined, parted_apart}
use Rattle.workroom.proofs.AllShown.{shown_then, all_shown, open_throughout, young_kept_up}
use Rattle.workroom.proofs.OthersAside.{others_aside}

pub the_panel_shows_what_was_meant : ShowsWhatWasMeant ours_panel
the_panel_shows_what_was_meant = record {
  begins = added_apart;
  joins = λ i w random back apart word. greeted_joined i w apart back random word;
  shows = λ i p w h j kept. shown_then i p w j h kept;
  shows_through = all_shown;
  unanswered = λ i p w k c there back j is higher. gets_no_reply i p w j k c is there back higher;
  others = others_aside;
  stays_open = open_throughout;
  asking_opens = λ i p w k there back j named. asked_open i p w j k there back named;
  stays_awaited = young_kept_up;
  parts = parted_apart;
}
