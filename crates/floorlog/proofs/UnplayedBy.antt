-- What is not played of a log, by what comes: no line any more, or a line and the rest; and what is kept of lines tells
-- it of the lines.
-- Assumes nothing.
use Rattle.std.proofs.Common.{take_all, ℕ, ◌+◌, ◌<◌, ◌≤◌, ◌≡◌, refl, sym, ap, ◌∙◌, Bool, List, [], ◌∷◌, ⊎_elim, map}
use Rattle.std.proofs.Common.{arith}
use Rattle.std.proofs.Common.{Option, length, take, length-take-le, if◌then◌else◌}
use Rattle.text.proofs.Orders.{le_or_lt}
use Rattle.record.specs.declared.types.Device.{Device}
use Rattle.textio.specs.Lines.{texts_of, lines_in, lines_of}
use Rattle.floorlog.specs.Kept.{kept_most, kept_lines}
use Rattle.floorlog.specs.Kinds.{begins_history}
use Rattle.floorlog.specs.Events.{event}
use Rattle.floorlog.specs.Unplayed.{begins_as_history, why_misread, line_noted, SaidLine, said_line, unplayed_by}
use Rattle.floorlog.specs.Unplayed.{answer, left_by_event, none_unplayed, unplayed_of}
use Rattle.floorlog.specs.declared.unplayed.LineError.TheVariants as why
use Rattle.floorlog.specs.declared.unplayed.Unplayed.{Unplayed}
use Rattle.floorlog.proofs.KeptText.{event_of_front, map_kept}

module _ {E : Type 0} (answers : Device → E → Option ℕ) (next : Device → E → Device) (u : Unplayed) (n : ℕ) (d : Device)
  where
    pub unplayed_none : unplayed_by answers next u n d [] ≡ u
    unfolding unplayed_by
    unplayed_none = refl

    pub unplayed_more : (l : SaidLine E) (ls : List (SaidLine E)) → unplayed_by answers next u n d (l ∷ ls)
        ≡ unplayed_by answers next (line_noted u (n + 1) l.why (answers d l.event)) (n + 1) (next d l.event) ls
    unfolding unplayed_by
    unplayed_more l ls = refl

-- of a line that is too long its front tells whether it is of a history
of_history_front : (l : List ℕ) → begins_as_history (take kept_most l) ≡ begins_as_history l
unfolding begins_history
of_history_front [] = refl
of_history_front (a ∷ []) = refl
of_history_front (a ∷ b ∷ []) = refl
of_history_front (a ∷ b ∷ c ∷ []) = refl
of_history_front (a ∷ b ∷ c ∷ d ∷ l) = refl

misread_overlong : (l : List ℕ) → 4096 < length l
    → why_misread l ≡ (if begins_as_history l then why.OfHistory else why.TooLong)
unfolding why_misread
misread_overlong l long = grind arith

pub misread_front : (l : List ℕ) → why_misread (take kept_most l) ≡ why_misread l
misread_front l =
    ⊎_elim (λ (h : length l ≤ kept_most). ap why_misread (take_all kept_most l h))
    (λ (h : kept_most < length l).
    misread_overlong (take kept_most l) (omega (arith, length-take-le kept_most l (omega arith)))
    ∙ ap (λ (b : Bool). if b then why.OfHistory else why.TooLong) (of_history_front l)
    ∙ sym (misread_overlong l (omega arith)))
    (le_or_lt (length l) kept_most)

-- so what is kept of each line says what the line says
pub said_kept : {E : Type 0} (said : List ℕ → E) → ((l : List ℕ) → said (take kept_most l) ≡ said l) → (log : List ℕ)
    → map (said_line said) (texts_of (kept_lines log)) ≡ map (said_line said) (lines_of log)
said_kept said same log =
    map_kept (said_line said) (λ l i. record { event = same l i; why = misread_front l i }) (lines_in log)

pub all_unplayed : {u : Unplayed} {n : ℕ} {d begun : Device} → u ≡ none_unplayed → n ≡ 0 → d ≡ begun → (log : List ℕ)
    → unplayed_by answer left_by_event u n d (map (said_line event) (texts_of (kept_lines log))) ≡ unplayed_of begun log
all_unplayed none first is log =
    (λ i. unplayed_by answer left_by_event (none i) (first i) (is i) (said_kept event event_of_front log i))
