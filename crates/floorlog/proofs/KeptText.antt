-- A line of which the front is kept has the event of the line.
-- Assumes nothing.
use Rattle.std.proofs.Common.{take_all, ℕ, ◌<◌, ◌≤◌, ◌≡◌, refl, sym, ap, ◌∙◌, List, [], ◌∷◌, ⊎_elim, map, arith}
use Rattle.std.proofs.Common.{length, take, length-take-le}
use Rattle.text.proofs.Orders.{le_or_lt}
use Rattle.textio.specs.Lines.{LogLine, texts_of, lines_in}
use Rattle.floorlog.specs.Kept.{kept_most, kept, kept_lines}
use Rattle.floorlog.specs.Events.{event, events}
use Rattle.floorlog.proofs.Forms.{event_overlong}

-- of an overlong line a byte more than a line may have is enough
pub event_of_front : (l : List ℕ) → event (take kept_most l) ≡ event l
event_of_front l =
    ⊎_elim (λ (h : length l ≤ kept_most). ap event (take_all kept_most l h))
    (λ (h : kept_most < length l).
    event_overlong (take kept_most l) (omega (arith, length-take-le kept_most l (omega arith)))
    ∙ sym (event_overlong l (omega arith)))
    (le_or_lt (length l) kept_most)

-- so what is kept of each line has the events of the log
pub map_kept : {T : Type 0} (f : List ℕ → T) → ((l : List ℕ) → f (take kept_most l) ≡ f l) → (ls : List LogLine)
    → map f (texts_of (map kept ls)) ≡ map f (texts_of ls)
map_kept f same [] = refl
map_kept f same (l ∷ ls) = (λ i. same l.text i ∷ map_kept f same ls i)

pub events_kept : (log : List ℕ) → map event (texts_of (kept_lines log)) ≡ events log
events_kept log = map_kept event (λ l. event_of_front l) (lines_in log)
