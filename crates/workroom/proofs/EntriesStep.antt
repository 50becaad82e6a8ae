-- Our panel's calls, seen from the entry of the projector that they name: what is sent, heard and lost there.
-- Assumes nothing.
use Rattle.std.proofs.Common.{ℕ, ◌≡◌, ap, ◌∙◌, true, List, ◌∷◌, arith, get_or-set_same}
use Rattle.text.specs.Outcomes.{CallResult}
use Rattle.codes.specs.declared.command.Coded.{Coded}
use Rattle.panel.specs.AnyPanel.{ours_panel}
use Rattle.panel.specs.Stepping.{lost_entry, sent_entry, heard_line}
use Rattle.panel.specs.LegalPanels.{is_panel, is_entry}
use Rattle.panel.specs.PanelCalls.{entry_at, with_entry, command_at, stepped_at, lost_at}
use Rattle.panel.specs.declared.types.PanelEntry.{PanelEntry}
use Rattle.panel.specs.declared.types.Panel.{Panel}
use Rattle.panel.specs.declared.refusal.PanelRefusal.{PanelRefusal}
use Rattle.panel.proofs.PanelsTold.{panel_told, entry_at_legal}
use Rattle.panel.proofs.PanelsLegal.{commanded_stays_legal, stepped_stays_legal, lost_stays_legal}
use Rattle.panel.proofs.OnlyItsEntry.{command_touches_its_entry, step_touches_its_entry, loss_touches_its_entry}
use Rattle.panel.proofs.Cases.{Commands, commanded_done, stepped_done, lost_done}
use Rattle.workroom.specs.Workroom.{delivered}
use Rattle.workroom.specs.PanelDemand.{IsServed}
use Rattle.workroom.proofs.Cuts.{stream_of-cut_at}

module _ (p : Panel) (i : ℕ) (served : IsServed p i) where
  placed : (e : PanelEntry) → entry_at (with_entry p i e) i ≡ e
  placed e = grind (arith, panel_told, get_or-set_same)

  pub entry_legal_there : is_entry (entry_at p i) ≡ true
  entry_legal_there = entry_at_legal p served.legal i served.there

  pub still_served : (q : Panel) → is_panel q ≡ true → q.count ≡ p.count → IsServed q i
  still_served q legal same = record { legal = legal; there = let here = served.there in omega arith }

  pub entry_at-command_at : (k : Coded) (room : ℕ) → Commands p i k room
      → entry_at (command_at p i k room).leaves i ≡ sent_entry (entry_at p i) k
  entry_at-command_at k room can =
      ap (λ (r : CallResult PanelRefusal (Unit {0}) Panel). entry_at r.leaves i) (commanded_done p i k room can)
      ∙ placed _

  pub sent_served : (k : Coded) (room : ℕ) → IsServed (command_at p i k room).leaves i
  sent_served k room = grind (arith, still_served, commanded_stays_legal, command_touches_its_entry)

  pub entry_at-stepped_at : (l : List ℕ) → entry_at (stepped_at p i l).leaves i ≡ heard_line (entry_at p i) l
  entry_at-stepped_at l = grind (arith, stepped_done, placed)

  pub heard_served : (l : List ℕ) → IsServed (stepped_at p i l).leaves i
  heard_served l = grind (arith, still_served, stepped_stays_legal, step_touches_its_entry)

  pub entry_at-lost_at : entry_at (lost_at p i).leaves i ≡ lost_entry (entry_at p i)
  entry_at-lost_at =
      ap (λ (r : CallResult PanelRefusal (Unit {0}) Panel). entry_at r.leaves i)
      (lost_done p i served.legal served.there)
      ∙ placed _

  pub lost_served : IsServed (lost_at p i).leaves i
  lost_served = still_served _ (lost_stays_legal p served.legal i) (loss_touches_its_entry p i).count

-- a line is delivered whole, in whatever cuts it came
pub delivered-cons : (i : ℕ) (p : Panel) (back : List ℕ) (b : ℕ) (bs : List ℕ)
    → delivered ours_panel i p back (b ∷ bs) ≡ (stepped_at p i (b ∷ bs)).leaves
delivered-cons i p back b bs = ap (λ (l : List ℕ). (stepped_at p i l).leaves) (stream_of-cut_at back (b ∷ bs))
