-- TWO PANELS THAT DO WHAT IS ASKED ARE ALIKE: each call gives the same number, line and panel, and reports
-- the same of a line, for every panel, projector, command, line and memory. So nothing that a panel does is
-- left open: one that did anything which is not asked would differ from ours, and so would not do all that is.
--   DoesWhatIsAsked P    the step on a line does what PanelDemand says, and each call what PanelCallsDone says
--   PanelsAlike P Q      each call of P is that of Q
-- Assumes nothing.
use Rattle.std.specs.Prelude.{ℕ, ◌≡◌, List}
use Rattle.codes.specs.declared.command.Coded.{Coded}
use Rattle.panel.specs.AnyPanel.{AnyPanel}
use Rattle.panel.specs.declared.types.Panel.{Panel}
use Rattle.workroom.specs.PanelDemand.{PanelDemand}
use Rattle.workroom.specs.PanelCallsDone.{PanelCallsDone}

pub record DoesWhatIsAsked (P : AnyPanel) : Type 0 where
  pub steps : PanelDemand P
  pub calls : PanelCallsDone P

pub record PanelsAlike (P Q : AnyPanel) : Type 0 where
  pub none : P.none ≡ Q.none
  pub add : (p : Panel) (s : List ℕ) → P.add p s ≡ Q.add p s
  pub command : (p : Panel) (i : ℕ) (k : Coded) (room : ℕ) → P.command p i k room ≡ Q.command p i k room
  pub hear : (p : Panel) (i : ℕ) (l : List ℕ) → P.hear p i l ≡ Q.hear p i l
  pub tell : (p : Panel) (i : ℕ) (l : List ℕ) → P.tell p i l ≡ Q.tell p i l
  pub lose : (p : Panel) (i : ℕ) → P.lose p i ≡ Q.lose p i
