-- The lines of a log (RULES, Floor log): a line ends with LF, the last perhaps without.
--   lines_ended g log   the lines that an LF ends, in a log whose first line has begun with g
--   cut_end g log       what follows the last LF of such a log
--   LogLine             a line without its LF, and whether an LF ended it
--   end_of l            the LF that ended the line l, or nothing
--   lines_in log        the lines of a log: those that an LF ends, and what follows the last LF, if anything does
--   texts_of ls         the lines ls without their LF;    lines_of log    the lines of a log without their LF
--   count_most          how many lines of a log, or bytes of a line, are too many to be counted
--   HasEndlessLine log  the log has a line of that many bytes
--   IsTooLong log       the log has that many lines, or a line of that many bytes
-- Assumes nothing.
use Rattle.std.specs.Prelude.{ℕ, ◌≤◌, ◌⊎◌, Bool, true, false, List, [], ◌∷◌, ◌++◌, Any, length, map, if◌then◌else◌}
use Rattle.std.specs.Prelude.{◌==◌}
use Rattle.std.specs.Prelude.{codes}
use Rattle.text.specs.Words.{◌is◌}

unfoldable pub lines_ended : List ℕ → List ℕ → List (List ℕ)
lines_ended g [] = []
lines_ended g (b ∷ bs) = if b is "\n" then g ∷ lines_ended [] bs else lines_ended (g ++ (b ∷ [])) bs

unfoldable pub cut_end : List ℕ → List ℕ → List ℕ
cut_end g [] = g
cut_end g (b ∷ bs) = if b is "\n" then cut_end [] bs else cut_end (g ++ (b ∷ [])) bs

pub record LogLine : Type 0 where
  pub text : List ℕ
  pub ended : Bool

abbrev pub end_of : LogLine → List ℕ
end_of l = if l.ended then codes "\n" else []

abbrev pub ended_line : List ℕ → LogLine
ended_line l = record { text = l; ended = true }

abbrev pub last_line : List ℕ → List LogLine
last_line l = if length l == 0 then [] else record { text = l; ended = false } ∷ []

unfoldable pub lines_in : List ℕ → List LogLine
lines_in log = map ended_line (lines_ended [] log) ++ last_line (cut_end [] log)

abbrev pub texts_of : List LogLine → List (List ℕ)
texts_of ls = map (λ (l : LogLine). l.text) ls

abbrev pub lines_of : List ℕ → List (List ℕ)
lines_of log = texts_of (lines_in log)

abbrev pub count_most : ℕ
count_most = 18446744073709551615

abbrev pub HasEndlessLine : List ℕ → Type 0
HasEndlessLine log = Any (λ (l : List ℕ). count_most ≤ length l) (lines_of log)

abbrev pub IsTooLong : List ℕ → Type 0
IsTooLong log = (count_most ≤ length (lines_of log)) ⊎ HasEndlessLine log
