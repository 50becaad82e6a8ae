-- What is kept of a line has the line's event.
-- Assumes nothing.
use Rattle.std.proofs.Common.{take_all, ℕ, ◌<◌, ◌≤◌, ◌≡◌, sym, ap, ◌∙◌, List, map, ⊎_elim, arith, length, take}
use Rattle.std.proofs.Common.{length-take-le, ne_eqb, None}
use Rattle.text.proofs.Orders.{le_or_lt}
use Rattle.textio.specs.Lines.{texts_of, lines_in}
use Rattle.floorlog.specs.Kept.{kept_most, kept_lines}
use Rattle.floorlog.proofs.KeptText.{event_of_front, map_kept}
use Rattle.watch.specs.Marking.{mark_said, event_by, floor_event}
use Rattle.watch.specs.Telling.{floor_events}

no_mark : (l : List ℕ) → (length l ≡ 5 → ⊥) → mark_said l ≡ None
unfolding mark_said
no_mark l h = simp (ne_eqb (length l) 5 h)

mark_of_front : (l : List ℕ) → mark_said (take kept_most l) ≡ mark_said l
mark_of_front l =
    ⊎_elim (λ (h : length l ≤ kept_most). ap mark_said (take_all kept_most l h))
    (λ (h : kept_most < length l).
    let long = length-take-le {A = ℕ} kept_most l (omega arith) in
    no_mark (take kept_most l) (λ e. omega arith) ∙ sym (no_mark l (λ e. omega arith)))
    (le_or_lt (length l) kept_most)

pub floor_event_of_front : (l : List ℕ) → floor_event (take kept_most l) ≡ floor_event l
unfolding floor_event
floor_event_of_front l = (λ i. event_by (mark_of_front l i) (event_of_front l i))

-- so what is kept of each line has the events of the log
pub floor_events_kept : (log : List ℕ) → map floor_event (texts_of (kept_lines log)) ≡ floor_events log
floor_events_kept log = map_kept floor_event floor_event_of_front (lines_in log)
