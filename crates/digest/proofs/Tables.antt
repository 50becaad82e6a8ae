-- What holds at each entry of a table, by one test of the whole table that antt computes.
-- Assumes nothing.
use Rattle.std.proofs.Common.{arith, ◌≡◌, ℕ, ◌+◌, ◌*◌, ◌%◌, ◌<◌, true, refl, eqb-true, ◌==◌}
use Rattle.std.proofs.Common.{List, slice_index}
use Rattle.text.proofs.EachBelow.{each_below, all_below}
use Rattle.digest.specs.Rounds.{by_round, shifts, shift_of, word_numbers, word_number, constant_of}
use Rattle.digest.specs.Sums.{operation_index, AreConstants}
use Rattle.digest.specs.Hex.{hex_digit, is_hex_digit, hex_worth}

pub word_number_by_formula : (i : ℕ) → i < 64 → word_number i ≡ by_round i i (5 * i + 1) (3 * i + 5) (7 * i) % 16
unfolding word_number word_numbers by_round
word_number_by_formula i h =
    eqb-true _ _ (
    each_below (λ k. word_number k == (by_round k k (5 * k + 1) (3 * k + 5) (7 * k) % 16)) 64 refl i h
    )

pub word_number_in_block : (i : ℕ) → i < 64 → word_number i < 16
word_number_in_block i h = omega (arith, word_number_by_formula i h)

-- constants, by the test of their places
pub are_constants : (t : List ℕ) → all_below (λ k. slice_index t (operation_index k) == constant_of k) 64 ≡ true
    → AreConstants t
are_constants t e = record {
  placed = λ i h. eqb-true _ _ (each_below (λ k. slice_index t (operation_index k) == constant_of k) 64 e i h);
}

-- the shifts of operation i by its round, and there by its place in the row
abbrev pub shift_by_rows : ℕ → ℕ
shift_by_rows i =
    let k = i % 4 * 16 in
    by_round i (by_round k 7 12 17 22) (by_round k 5 9 14 20) (by_round k 4 11 16 23) (by_round k 6 10 15 21)

pub shift_by_rows_lem : (i : ℕ) → i < 64 → shift_of i ≡ shift_by_rows i
unfolding shift_of shifts by_round
shift_by_rows_lem i h = eqb-true _ _ (each_below (λ k. shift_of k == shift_by_rows k) 64 refl i h)

pub shift_in_word : (i : ℕ) → i < 64 → (0 < shift_of i) × (shift_of i < 32)
unfolding shift_of shifts
shift_in_word i h = grind arith

pub is_hex_digit-hex_digit : (n : ℕ) → n < 16 → is_hex_digit (hex_digit n) ≡ true
unfolding hex_digit
is_hex_digit-hex_digit n h = each_below (λ k. is_hex_digit (hex_digit k)) 16 refl n h

pub hex_worth-hex_digit : (n : ℕ) → n < 16 → hex_worth (hex_digit n) ≡ n
unfolding hex_digit hex_worth
hex_worth-hex_digit n h = eqb-true _ _ (each_below (λ k. hex_worth (hex_digit k) == k) 16 refl n h)
