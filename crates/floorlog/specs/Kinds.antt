-- The kind of a log (RULES, Floor log): a log whose first line begins with `LOG ` is the history of a board.
--   begins_history l        the line l begins with `LOG `
--   is_history ls           a log of the lines ls is a history: the first begins so; a log of no line is no history
--   is_history_from k ls    a log is a history, if the lines before ls say that it is of the kind k; if there are none,
--                           ls says
-- Assumes nothing.
use Rattle.std.specs.Prelude.{ℕ, Bool, true, false, ◌&&◌, List, [], ◌∷◌}
use Rattle.text.specs.Words.{◌is◌}
use Rattle.textio.specs.Lines.{LogLine}
use Rattle.floorlog.specs.declared.kinds.LogKind.{LogKind}
use Rattle.floorlog.specs.declared.kinds.LogKind.TheVariants.{Unbegun, Events, History}

unfoldable pub begins_history : List ℕ → Bool
begins_history (l ∷ o ∷ g ∷ s ∷ more) = l is "L" && o is "O" && g is "G" && s is " "
begins_history l = false

abbrev pub is_history : List LogLine → Bool
is_history [] = false
is_history (l ∷ ls) = begins_history l.text

abbrev pub is_history_from : LogKind → List LogLine → Bool
is_history_from Unbegun ls = is_history ls
is_history_from Events ls = false
is_history_from History ls = true
