-- One block of 64 bytes (RFC 1321, 3.4). The RFC counts its 64 operations from 1, we count them from 0.
--   fn_f fn_g fn_h fn_i   the four auxiliary functions
--   table_t               T[1] to T[64]: the integer part of 4294967296 times abs(sin(i)), i in radians
--   word_numbers          the k of the 64 operations [abcd k s i], a round a row
--   shifts                their s, a round a row: each row is gone through four times
--   by_round i w x y z    w, x, y or z, as operation i is of round 1, 2, 3 or 4
--   operated_with q f x s t  a = b + ((a + f + x + t) <<< s), after which DABC are called ABCD, for the next operation
--   operation xs i q      operation i on the block xs
--   operations i n xs q   n operations, the first of them operation i
--   buffer_sum p q        the four words q, each increased by what it was before the block
--   block_of xs q         the four words after the block xs, from the four words q
-- Assumes nothing.
use Rattle.std.specs.Prelude.{ℕ, zero, suc, ◌+◌, ◌*◌, ◌/◌, ◌%◌, List, [], ◌∷◌, bit_and, bit_or, bit_xor, nat_lt}
use Rattle.std.specs.Prelude.{slice_index, if◌then◌else◌}
use Rattle.digest.specs.Words.{◌plus◌, ◌<<<◌, complement, word_at}
use Rattle.digest.specs.declared.Buffer.{Buffer}

abbrev pub fn_f : ℕ → ℕ → ℕ → ℕ
fn_f x y z = bit_or (bit_and x y) (bit_and (complement x) z)

abbrev pub fn_g : ℕ → ℕ → ℕ → ℕ
fn_g x y z = bit_or (bit_and x z) (bit_and y (complement z))

abbrev pub fn_h : ℕ → ℕ → ℕ → ℕ
fn_h x y z = bit_xor (bit_xor x y) z

abbrev pub fn_i : ℕ → ℕ → ℕ → ℕ
fn_i x y z = bit_xor y (bit_or x (complement z))

unfoldable pub table_t : List ℕ
table_t =
    0xd76aa478 ∷ 0xe8c7b756 ∷ 0x242070db ∷ 0xc1bdceee ∷ 0xf57c0faf ∷ 0x4787c62a ∷ 0xa8304613 ∷ 0xfd469501 ∷
    0x698098d8 ∷ 0x8b44f7af ∷ 0xffff5bb1 ∷ 0x895cd7be ∷ 0x6b901122 ∷ 0xfd987193 ∷ 0xa679438e ∷ 0x49b40821 ∷
    0xf61e2562 ∷ 0xc040b340 ∷ 0x265e5a51 ∷ 0xe9b6c7aa ∷ 0xd62f105d ∷ 0x02441453 ∷ 0xd8a1e681 ∷ 0xe7d3fbc8 ∷
    0x21e1cde6 ∷ 0xc33707d6 ∷ 0xf4d50d87 ∷ 0x455a14ed ∷ 0xa9e3e905 ∷ 0xfcefa3f8 ∷ 0x676f02d9 ∷ 0x8d2a4c8a ∷
    0xfffa3942 ∷ 0x8771f681 ∷ 0x6d9d6122 ∷ 0xfde5380c ∷ 0xa4beea44 ∷ 0x4bdecfa9 ∷ 0xf6bb4b60 ∷ 0xbebfbc70 ∷
    0x289b7ec6 ∷ 0xeaa127fa ∷ 0xd4ef3085 ∷ 0x04881d05 ∷ 0xd9d4d039 ∷ 0xe6db99e5 ∷ 0x1fa27cf8 ∷ 0xc4ac5665 ∷
    0xf4292244 ∷ 0x432aff97 ∷ 0xab9423a7 ∷ 0xfc93a039 ∷ 0x655b59c3 ∷ 0x8f0ccc92 ∷ 0xffeff47d ∷ 0x85845dd1 ∷
    0x6fa87e4f ∷ 0xfe2ce6e0 ∷ 0xa3014314 ∷ 0x4e0811a1 ∷ 0xf7537e82 ∷ 0xbd3af235 ∷ 0x2ad7d2bb ∷ 0xeb86d391 ∷
    []

unfoldable pub word_numbers : List ℕ
word_numbers =
    0 ∷ 1 ∷ 2 ∷ 3 ∷ 4 ∷ 5 ∷ 6 ∷ 7 ∷ 8 ∷ 9 ∷ 10 ∷ 11 ∷ 12 ∷ 13 ∷ 14 ∷ 15 ∷
    1 ∷ 6 ∷ 11 ∷ 0 ∷ 5 ∷ 10 ∷ 15 ∷ 4 ∷ 9 ∷ 14 ∷ 3 ∷ 8 ∷ 13 ∷ 2 ∷ 7 ∷ 12 ∷
    5 ∷ 8 ∷ 11 ∷ 14 ∷ 1 ∷ 4 ∷ 7 ∷ 10 ∷ 13 ∷ 0 ∷ 3 ∷ 6 ∷ 9 ∷ 12 ∷ 15 ∷ 2 ∷
    0 ∷ 7 ∷ 14 ∷ 5 ∷ 12 ∷ 3 ∷ 10 ∷ 1 ∷ 8 ∷ 15 ∷ 6 ∷ 13 ∷ 4 ∷ 11 ∷ 2 ∷ 9 ∷
    []

unfoldable pub shifts : List ℕ
shifts =
    7 ∷ 12 ∷ 17 ∷ 22 ∷
    5 ∷ 9 ∷ 14 ∷ 20 ∷
    4 ∷ 11 ∷ 16 ∷ 23 ∷
    6 ∷ 10 ∷ 15 ∷ 21 ∷
    []

unfoldable pub by_round : {A : Type 0} → ℕ → A → A → A → A → A
by_round i w x y z = if nat_lt i 16 then w else if nat_lt i 32 then x else if nat_lt i 48 then y else z

-- of operation i: its constant, its word, its shift, and its function of b, c and d
unfoldable pub constant_of : ℕ → ℕ
constant_of i = slice_index table_t i

unfoldable pub word_number : ℕ → ℕ
word_number i = slice_index word_numbers i

unfoldable pub shift_of : ℕ → ℕ
shift_of i = slice_index shifts (i / 16 * 4 + i % 4)

unfoldable pub function_of : ℕ → ℕ → ℕ → ℕ → ℕ
function_of i b c d = by_round i (fn_f b c d) (fn_g b c d) (fn_h b c d) (fn_i b c d)

unfoldable pub operated_with : Buffer → ℕ → ℕ → ℕ → ℕ → Buffer
operated_with q f x s t =
    record { a = q.d; b = q.b plus ((q.a plus f plus x plus t) <<< s); c = q.b; d = q.c }

unfoldable pub operation : List ℕ → ℕ → Buffer → Buffer
operation xs i q =
    operated_with q (function_of i q.b q.c q.d) (word_at xs (4 * word_number i)) (shift_of i) (constant_of i)

unfoldable pub operations : ℕ → ℕ → List ℕ → Buffer → Buffer
operations i zero xs q = q
operations i (suc n) xs q = operation xs (i + n) (operations i n xs q)

unfoldable pub buffer_sum : Buffer → Buffer → Buffer
buffer_sum p q = record { a = p.a plus q.a; b = p.b plus q.b; c = p.c plus q.c; d = p.d plus q.d }

unfoldable pub block_of : List ℕ → Buffer → Buffer
block_of xs q = buffer_sum q (operations 0 64 xs q)
