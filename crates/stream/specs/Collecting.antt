-- Collecting a line (RULES, Connection: "takes bytes up to and including the first CR, or all of them if none").
--   line_of xs                 the line with the bytes xs collected, and its unused room zero
--   line_text l                the bytes collected of a line
--   empty_line, overlong_line  the line with nothing collected; with its overlong flag alone
--   collected_in left most l b   the line after one byte more; past `most` bytes it only keeps its overlong flag, and
--                              `left` says what is left in its room
--   line_after most l b        the same, where nothing is left in it
--   collected_all most l bs    the line after these bytes, one after the other
--   Gathered                   the result of one call on its bytes: the line so far, how many bytes come
--                              before CR, and whether it came
--   gathered_from most l bs    the line after the bytes of bs before the first CR, how many these are, and whether it
--                              came
-- Assumes nothing.
use Rattle.std.specs.Prelude.{ℕ, ◌+◌, length, take, set, if◌then◌else◌, nat_le, List}
use Prim.Native.Char.{code}
use mathlib.Core.List.{foldl}
use Rattle.text.specs.Flags.{is_raised}
use Rattle.record.specs.Limits.{line_room}
use Rattle.record.specs.Record.{zeros, in_room}
use Rattle.record.specs.declared.types.CollectedLine.{CollectedLine}
use Rattle.stream.specs.Machine.{UpTo, up_to}

abbrev pub line_of : List ℕ → CollectedLine
line_of xs = record { overlong = 0; held = length xs; bytes = in_room line_room xs }

abbrev pub line_text : CollectedLine → List ℕ
line_text l = take l.held l.bytes

unfoldable pub empty_line : CollectedLine
empty_line = record { overlong = 0; held = 0; bytes = zeros line_room }

unfoldable pub overlong_line : CollectedLine
overlong_line = record { overlong = 1; held = 0; bytes = zeros line_room }

unfoldable pub collected_in : (List ℕ → List ℕ) → ℕ → CollectedLine → ℕ → CollectedLine
collected_in left most l b =
    if is_raised l.overlong then l
    else if nat_le most l.held then record { overlong = 1; held = 0; bytes = left l.bytes }
    else record { overlong = 0; held = l.held + 1; bytes = set l.bytes l.held b }

abbrev pub line_after : ℕ → CollectedLine → ℕ → CollectedLine
line_after most l b = collected_in (λ (m : List ℕ). zeros line_room) most l b

abbrev pub collected_all : ℕ → CollectedLine → List ℕ → CollectedLine
collected_all most l bs = foldl (line_after most) l bs

abbrev pub Gathered : Type 0
Gathered = UpTo CollectedLine

unfoldable pub gathered_from : ℕ → CollectedLine → List ℕ → Gathered
gathered_from most l bs = up_to (code "\r") (line_after most) l bs
