-- The definition computes what the documents say: the test suite of RFC 1321, A.5, and the example of PJLink 1.04, 5.1.
-- Assumes nothing.
use Rattle.std.proofs.Common.{arith}
use Rattle.digest.specs.Padding.{zeros_after, padding}
use Rattle.digest.specs.Rounds.{table_t, word_numbers, shifts, constant_of, word_number, shift_of, by_round}
use Rattle.digest.specs.Rounds.{function_of, operated_with, operation, operations, buffer_sum, block_of}
use Rattle.digest.specs.Md5.{blocks_of, md5_of}
use Rattle.digest.specs.TestSuite.{TestSuite}
use Rattle.digest.specs.Hex.{hex_digit, hex_of}

pub suite : TestSuite
unfolding zeros_after padding table_t word_numbers shifts constant_of word_number shift_of by_round function_of
    operated_with
    operation operations buffer_sum block_of blocks_of md5_of hex_digit hex_of
suite = grind arith
