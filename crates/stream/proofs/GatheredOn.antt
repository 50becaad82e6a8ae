-- What one call gathers of a line that CR ends: by how many bytes stand before it, and where none is CR.
-- Assumes nothing.
use Rattle.std.specs.List.{list_all}
use Rattle.std.proofs.Common.{ℕ, ◌≤◌, ◌+◌, ◌≡◌, true, false, List, length}
use Prim.Native.Char.{code}
use Rattle.words.specs.Bytes.{is_not_cr}
use Rattle.record.specs.declared.types.CollectedLine.{CollectedLine}
use Rattle.stream.specs.Collecting.{line_after, collected_all, gathered_from}
use Rattle.stream.proofs.UpToTheEnd.{plain_up_to, found}

module _ (most : ℕ) (l : CollectedLine) (bs : List ℕ) where
  pub gathered_within : (gathered_from most l bs).before ≤ length bs
  unfolding gathered_from
  gathered_within = (found (code "\r") (line_after most) l bs).inside

  pub gathered_from-ended : (gathered_from most l bs).ended ≡ true → (gathered_from most l bs).before + 1 ≤ length bs
  unfolding gathered_from
  gathered_from-ended = (found (code "\r") (line_after most) l bs).came

  pub gathered_whole : (gathered_from most l bs).ended ≡ false → (gathered_from most l bs).before ≡ length bs
  unfolding gathered_from
  gathered_whole = (found (code "\r") (line_after most) l bs).all

  pub plain_gathered : list_all is_not_cr bs ≡ true
      → gathered_from most l bs ≡ record { line = collected_all most l bs; before = length bs; ended = false }
  unfolding gathered_from
  plain_gathered p = plain_up_to (code "\r") (line_after most) l bs p
