-- A log that begins with the word of a header is known as a history, however it goes on.
-- Assumes nothing.
use Rattle.std.proofs.Common.{ℕ, ◌≡◌, ap, ◌∙◌, true, List, ◌++◌, arith, codes, map}
use Prim.Native.Char.{code}
use Rattle.stream.proofs.UpToTheEnd.{plain, line, cut}
use Rattle.textio.specs.Lines.{LogLine}
use Rattle.textio.proofs.LinesEnded.{lines_whole, lines_last}
use Rattle.history.proofs.Logs.{no_lf}
use Rattle.floorlog.specs.Kept.{kept, kept_lines}
use Rattle.floorlog.specs.Kinds.{begins_history, is_history}

pub word_known : (rest : List ℕ) → is_history (kept_lines (codes "LOG " ++ rest)) ≡ true
unfolding begins_history
word_known rest =
    elim (cut (code "\n") rest) [
      | plain none ↦
          ap (λ (ls : List LogLine). is_history (map kept ls))
          (lines_last (codes "LOG " ++ rest) (no_lf (codes "LOG " ++ rest) none) (omega arith))
      | line first more is none ↦
          ap (λ (l : List ℕ). is_history (kept_lines (codes "LOG " ++ l))) is
          ∙ ap (λ (ls : List LogLine). is_history (map kept ls))
          (lines_whole (codes "LOG " ++ first) more (no_lf (codes "LOG " ++ first) none))
    ]
