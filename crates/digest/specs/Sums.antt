-- How the code keeps what an operation adds beside its function: word and constant, as one sum. No other definition
-- names it.
--   operation_index i     the place of operation i: those of a round stand in the order of the words that they take
--   AreConstants t        t has the constant of each operation at its place
--   AreSums xs s          s has the word and the constant of each operation on the block xs, added, at its place
-- Assumes nothing.
use Rattle.std.specs.Prelude.{ℕ, ◌≡◌, ◌<◌, ◌+◌, ◌*◌, ◌/◌, List, slice_index}
use Rattle.digest.specs.Words.{◌plus◌, word_at}
use Rattle.digest.specs.Rounds.{word_number, constant_of}

unfoldable pub operation_index : ℕ → ℕ
operation_index i = 16 * (i / 16) + word_number i

pub record AreConstants (t : List ℕ) : Type 0 where
  pub placed : (i : ℕ) → i < 64 → slice_index t (operation_index i) ≡ constant_of i

pub record AreSums (xs s : List ℕ) : Type 0 where
  pub placed : (i : ℕ) → i < 64 → slice_index s (operation_index i) ≡ word_at xs (4 * word_number i) plus constant_of i
