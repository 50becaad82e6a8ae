-- Of a log whose lines are short each is kept whole, up to its last LF.
-- Assumes nothing.
use Rattle.std.proofs.Common.{ℕ, ◌≤◌, ◌≡◌, refl, ap, ◌∙◌, true, List, [], ◌∷◌, ◌++◌, arith, length, map, take_all, All}
use Rattle.std.proofs.lemmas.List.{map-append}
use Rattle.std.proofs.lemmas.List.Elements.{All-head, All-tail}
use Rattle.textio.specs.Lines.{LogLine, ended_line, last_line, lines_ended, cut_end}
use Rattle.textio.proofs.LinesEnded.{lines_spelt}
use Rattle.floorlog.specs.Kept.{kept_most, kept, kept_lines}

kept_whole : (ls : List (List ℕ)) → All (λ (l : List ℕ). length l ≤ 4096) ls
    → map kept (map ended_line ls) ≡ map ended_line ls
kept_whole [] h = refl
kept_whole (l ∷ ls) h =
    let short = All-head (λ (x : List ℕ). length x ≤ 4096) l ls h in
    (λ i. record { text = take_all kept_most l (omega (arith, short)) i; ended = true }
    ∷ kept_whole ls (All-tail (λ (x : List ℕ). length x ≤ 4096) l ls h) i)

pub short_kept : (log : List ℕ) → All (λ (l : List ℕ). length l ≤ 4096) (lines_ended [] log)
    → kept_lines log ≡ map ended_line (lines_ended [] log) ++ map kept (last_line (cut_end [] log))
short_kept log short =
    ap (map kept) (lines_spelt log)
    ∙ map-append kept (map ended_line (lines_ended [] log)) (last_line (cut_end [] log))
    ∙ ap (λ (ls : List LogLine). ls ++ map kept (last_line (cut_end [] log)))
    (kept_whole (lines_ended [] log) short)
