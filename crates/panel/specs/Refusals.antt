-- Why a call on a panel is refused, and the number that it gives then (RULES, The numbers a call gives).
--   panel_refusal_number r       the number of the refusal r
-- Assumes nothing.
use Rattle.std.specs.Prelude.{ℕ}
use Rattle.panel.specs.declared.refusal.PanelRefusal.{PanelRefusal}
use Rattle.panel.specs.declared.refusal.PanelRefusal.TheVariants.{NotLegal, NoRoom, OutOfRange, NotReady}

abbrev pub panel_refusal_number : PanelRefusal → ℕ
panel_refusal_number NotLegal = 1
panel_refusal_number NoRoom = 2
panel_refusal_number OutOfRange = 3
panel_refusal_number NotReady = 9
