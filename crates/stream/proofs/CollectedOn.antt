-- Collecting goes on where it stopped, and from nothing it gives the bytes themselves or, past the room, the overlong
-- flag alone.
-- Assumes nothing.
use Rattle.std.proofs.Common.{ℕ, ◌≤◌, ◌<◌, ◌≡◌, refl, ap, ◌∙◌, List, [], ◌++◌, arith, length}
use mathlib.Core.List.{foldl-append}
use Rattle.record.specs.Limits.{line_room}
use Rattle.record.specs.declared.types.CollectedLine.{CollectedLine}
use Rattle.stream.specs.Collecting.{line_of, empty_line, overlong_line, line_after, collected_all}
use Rattle.stream.proofs.AllAtOnce.{all_past}
use Rattle.stream.proofs.LinesCollected.{empty_is_none, collected_all-line_of}

pub collected_all-append : (most : ℕ) (l : CollectedLine) (xs ys : List ℕ)
    → collected_all most l (xs ++ ys) ≡ collected_all most (collected_all most l xs) ys
collected_all-append most l xs ys = foldl-append (line_after most) l xs ys

module _ (xs : List ℕ) where
  from_none : collected_all line_room empty_line xs ≡ collected_all line_room (line_of []) xs
  from_none = ap (λ (l : CollectedLine). collected_all line_room l xs) empty_is_none

  pub collected_whole : length xs ≤ line_room → collected_all line_room empty_line xs ≡ line_of xs
  collected_whole short = from_none ∙ collected_all-line_of line_room [] xs (omega arith) (omega arith)

  pub collected_overlong : line_room < length xs → collected_all line_room empty_line xs ≡ overlong_line
  collected_overlong long = from_none ∙ all_past line_room (line_of []) xs refl (omega arith) (omega arith)
