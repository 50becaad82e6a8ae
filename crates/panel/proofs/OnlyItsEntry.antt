-- "The step touches only the named projector's entry" (RULES, Panel): for any panel, any line and every other place,
-- what stood there stands there, and no projector comes or goes. So too for a command and for a connection that is
-- gone; a projector more leaves the others as they were.
-- Assumes nothing.
use Rattle.std.proofs.Common.{ℕ, ◌≡◌, refl, List, get_or-set_other}
use Rattle.codes.specs.declared.command.Coded.{Coded}
use Rattle.panel.specs.Entries.{blank_entry}
use Rattle.panel.specs.PanelCalls.{entry_at, with_entry, added_to, command_at, stepped_at, lost_at}
use Rattle.panel.specs.declared.types.PanelEntry.{PanelEntry}
use Rattle.panel.specs.declared.types.Panel.{Panel}
use Rattle.panel.proofs.Cases.{added_by, commanded_by, stepped_by, lost_by}

-- all but the projector i is as it was
pub record OnlyAt (p : Panel) (i : ℕ) (q : Panel) : Type 0 where
  pub count : q.count ≡ p.count
  pub others : (j : ℕ) → (j ≡ i → ⊥) → entry_at q j ≡ entry_at p j

module _ (p : Panel) (i : ℕ) where
  nothing_touched : OnlyAt p i p
  nothing_touched = record { count = refl; others = λ j other. refl }

  one_touched : (e : PanelEntry) → OnlyAt p i (with_entry p i e)
  one_touched e = record { count = refl; others = λ j other. get_or-set_other p.entries i j e blank_entry other }

  pub step_touches_its_entry : (l : List ℕ) → OnlyAt p i (stepped_at p i l).leaves
  step_touches_its_entry l =
      stepped_by p i l (λ r. OnlyAt p i r.leaves) (λ n z. nothing_touched) (λ legal there. one_touched _)

  pub command_touches_its_entry : (k : Coded) (room : ℕ) → OnlyAt p i (command_at p i k room).leaves
  command_touches_its_entry k room =
      commanded_by p i k room (λ r. OnlyAt p i r.leaves) (λ n z. nothing_touched) (λ served. one_touched _)

  pub loss_touches_its_entry : OnlyAt p i (lost_at p i).leaves
  loss_touches_its_entry =
      lost_by p i (λ r. OnlyAt p i r.leaves) (λ n z. nothing_touched) (λ legal there. one_touched _)

pub addition_keeps_others : (p : Panel) (s : List ℕ) (j : ℕ) → (j ≡ p.count → ⊥)
    → entry_at (added_to p s).leaves j ≡ entry_at p j
addition_keeps_others p s j other =
    added_by p s (λ r. entry_at r.leaves j ≡ entry_at p j) (λ n z. refl)
    (λ legal word free. get_or-set_other p.entries p.count j _ blank_entry other)
