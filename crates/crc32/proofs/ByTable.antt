-- Eight bits are shifted at once: what comes in is read from the table by the lowest byte, and the rest is moved. And
-- 32 bits or 128, each byte by a table of its own.
--   spread s   what the bits of the bytes s make, each of a byte with all that follow it to go
-- Assumes nothing.
use Rattle.std.proofs.Common.{ℕ, zero, suc, ◌+◌, ◌*◌, ◌/◌, ◌%◌, ◌^◌, ◌<◌, ◌≡◌, arith, refl, sym, ap, ◌∙◌, bit_xor}
use Rattle.std.proofs.Common.{List, [], ◌∷◌, length, slice_index_or}
use Rattle.std.proofs.lemmas.Nat.{xor_shr, xor_mod, xor_of_32, xor_comm}
use lib.Bits.{xor_shifted, xor_zero_l, xor_zero_r}
use Rattle.crc32.specs.Crc.{bits_shifted, after_byte, remainder_on}
use Rattle.crc32.specs.Table.{table_of, tables_of}
use Rattle.crc32.proofs.Shifts.{bits_over, bits_linear, bits_shifted-add}
use Rattle.crc32.proofs.Changes.{AreBytes, word_in, remainder_at_once}

-- ---- the tables

table_at : (m k n i : ℕ) → i < n → slice_index_or (table_of m k n) i 0 ≡ bits_shifted m (k + i)
unfolding table_of
table_at m k zero i h = absurd (omega arith)
table_at m k (suc n) zero h = ap (bits_shifted m) (omega arith)
table_at m k (suc n) (suc i) h =
    let same : suc k + i ≡ k + suc i = omega arith in
    table_at m (suc k) n i (omega arith) ∙ ap (bits_shifted m) same

tables_at : (m n j : ℕ) → j < n → slice_index_or (tables_of m n) j [] ≡ table_of (m + 8 * j) 0 256
unfolding tables_of
tables_at m zero j h = absurd (omega arith)
tables_at m (suc n) zero h = ap (λ (k : ℕ). table_of k 0 256) (omega arith)
tables_at m (suc n) (suc j) h =
    let same : 8 + m + 8 * j ≡ m + 8 * suc j = omega arith in
    tables_at (8 + m) n j (omega arith) ∙ ap (λ (k : ℕ). table_of k 0 256) same

-- the entry of a byte in the table of m bits
entry : (j m i : ℕ) {t : List (List ℕ)} → t ≡ tables_of 8 16 → j < 16 → m ≡ 8 + 8 * j → i < 256
    → slice_index_or (slice_index_or t j []) i 0 ≡ bits_shifted m i
entry j m i e row bits h =
    let there : 0 + i ≡ i = omega arith in
    ap (λ (t : List (List ℕ)). slice_index_or (slice_index_or t j []) i 0) e
    ∙ ap (λ (t : List ℕ). slice_index_or t i 0) (tables_at 8 16 j row)
    ∙ table_at (8 + 8 * j) 0 256 i h
    ∙ (λ k. bits_shifted (sym bits k) (there k))

-- ---- a byte

-- the lowest byte, and what stands above it
parts : (x : ℕ) → x ≡ bit_xor (x / 256 * 2 ^ 8) (x % 256)
parts x = sym (xor_shifted (x / 256) 8 (x % 256) (omega arith) ∙ omega arith)

above : (r b : ℕ) → b < 256 → bit_xor r b / 256 ≡ r / 256
above r b h =
    let none : b / 2 ^ 8 ≡ 0 = omega arith in
    xor_shr r b 8 ∙ ap (bit_xor (r / 2 ^ 8)) none ∙ xor_zero_r (r / 2 ^ 8)

pub by_table : (r b : ℕ) {t : List (List ℕ)} → b < 256 → t ≡ tables_of 8 16
    → bit_xor (r / 256) (slice_index_or (slice_index_or t 0 []) (bit_xor r b % 256) 0) ≡ after_byte r b
unfolding after_byte
by_table r b {t} h e =
    let x : ℕ = bit_xor r b in
    ap (bit_xor (r / 256)) (entry 0 8 (x % 256) e (omega arith) (omega arith) (omega arith))
    ∙ ap (λ (n : ℕ). bit_xor n (bits_shifted 8 (x % 256))) (sym (above r b h))
    ∙ sym (bits_over 8 (x / 256) (x % 256))
    ∙ ap (bits_shifted 8) (sym (parts x))

-- ---- more bytes

-- the lowest byte goes eight bits further than the others
split : (n x : ℕ) → bits_shifted (8 + n) x ≡ bit_xor (bits_shifted n (x / 256)) (bits_shifted (8 + n) (x % 256))
split n x =
    ap (bits_shifted (8 + n)) (parts x)
    ∙ bits_shifted-add 8 n (bit_xor (x / 256 * 2 ^ 8) (x % 256))
    ∙ ap (bits_shifted n) (bits_over 8 (x / 256) (x % 256))
    ∙ bits_linear n (x / 256) (bits_shifted 8 (x % 256))
    ∙ ap (bit_xor (bits_shifted n (x / 256))) (sym (bits_shifted-add 8 n (x % 256)))

in_four : (x : ℕ) → bits_shifted 32 x
    ≡ bit_xor (bit_xor (bit_xor (bits_shifted 8 (x / 256 / 256 / 256)) (bits_shifted 16 (x / 256 / 256 % 256)))
    (bits_shifted 24 (x / 256 % 256))) (bits_shifted 32 (x % 256))
in_four x =
    let upper = split 16 (x / 256)
    ∙ (λ i. bit_xor (split 8 (x / 256 / 256) i) (bits_shifted 24 (x / 256 % 256))) in
    split 24 x ∙ (λ i. bit_xor (upper i) (bits_shifted 32 (x % 256)))

in_sixteen : (x : ℕ) → bits_shifted 128 x
    ≡ bit_xor (bit_xor (bit_xor (bit_xor (bits_shifted 96 (x / 256 / 256 / 256 / 256))
    (bits_shifted 104 (x / 256 / 256 / 256 % 256))) (bits_shifted 112 (x / 256 / 256 % 256)))
    (bits_shifted 120 (x / 256 % 256))) (bits_shifted 128 (x % 256))
in_sixteen x =
    let third = split 104 (x / 256 / 256)
    ∙ (λ i. bit_xor (split 96 (x / 256 / 256 / 256) i) (bits_shifted 112 (x / 256 / 256 % 256))) in
    let second = split 112 (x / 256) ∙ (λ i. bit_xor (third i) (bits_shifted 120 (x / 256 % 256))) in
    split 120 x ∙ (λ i. bit_xor (second i) (bits_shifted 128 (x % 256)))

unfoldable spread : List ℕ → ℕ
spread [] = 0
spread (b ∷ s) = bit_xor (spread s) (bits_shifted (8 + 8 * length s) b)

spread_all : (s : List ℕ) → AreBytes s → bits_shifted (8 * length s) (word_in s) ≡ spread s
unfolding spread bits_shifted word_in
spread_all [] bytes = refl
spread_all (b ∷ s) bytes =
    let x : ℕ = word_in s * 2 ^ 8 + b in
    let more : 8 * suc (length s) ≡ 8 + 8 * length s = omega arith in
    let high : x / 256 ≡ word_in s = omega (arith, bytes 0) in
    let low : x % 256 ≡ b = omega (arith, bytes 0) in
    ap (λ (k : ℕ). bits_shifted k x) more
    ∙ split (8 * length s) x
    ∙ (λ i. bit_xor (bits_shifted (8 * length s) (high i)) (bits_shifted (8 + 8 * length s) (low i)))
    ∙ ap (λ (n : ℕ). bit_xor n (bits_shifted (8 + 8 * length s) b)) (spread_all s (λ k. bytes (suc k)))

pub bytes_four : (a b c d : ℕ) → a < 256 → b < 256 → c < 256 → d < 256 → AreBytes (a ∷ b ∷ c ∷ d ∷ [])
bytes_four a b c d ha hb hc hd zero = ha
bytes_four a b c d ha hb hc hd (suc zero) = hb
bytes_four a b c d ha hb hc hd (suc (suc zero)) = hc
bytes_four a b c d ha hb hc hd (suc (suc (suc zero))) = hd
bytes_four a b c d ha hb hc hd (suc (suc (suc (suc k)))) = omega arith

-- four bytes at once, which are the number w
pub by_tables : (r w a b c d : ℕ) {t : List (List ℕ)} → AreBytes (a ∷ b ∷ c ∷ d ∷ []) → r < 2 ^ 32 → w < 2 ^ 32
    → w ≡ word_in (a ∷ b ∷ c ∷ d ∷ []) → t ≡ tables_of 8 16
    → bit_xor (bit_xor (bit_xor (slice_index_or (slice_index_or t 0 []) (bit_xor r w / 16777216) 0)
    (slice_index_or (slice_index_or t 1 []) (bit_xor r w / 65536 % 256) 0))
    (slice_index_or (slice_index_or t 2 []) (bit_xor r w / 256 % 256) 0))
    (slice_index_or (slice_index_or t 3 []) (bit_xor r w % 256) 0)
    ≡ remainder_on r (a ∷ b ∷ c ∷ d ∷ [])
by_tables r w a b c d bytes hr hw word e =
    let x : ℕ = bit_xor r w in
    let within : x < 2 ^ 32 = xor_of_32 r w hr hw in
    let third : x / 65536 ≡ x / 256 / 256 = omega arith in
    let fourth : x / 16777216 ≡ x / 256 / 256 / 256 = omega arith in
    (λ i. bit_xor
    (bit_xor
    (bit_xor (entry 0 8 (x / 16777216) e (omega arith) (omega arith) (omega arith) i)
    (entry 1 16 (x / 65536 % 256) e (omega arith) (omega arith) (omega arith) i))
    (entry 2 24 (x / 256 % 256) e (omega arith) (omega arith) (omega arith) i))
    (entry 3 32 (x % 256) e (omega arith) (omega arith) (omega arith) i))
    ∙ (λ i. bit_xor
    (bit_xor (bit_xor (bits_shifted 8 (fourth i)) (bits_shifted 16 (third i % 256))) (bits_shifted 24 (x / 256 % 256)))
    (bits_shifted 32 (x % 256)))
    ∙ sym (in_four x)
    ∙ ap (bits_shifted 32) (xor_comm r w ∙ ap (λ (n : ℕ). bit_xor n r) word)
    ∙ sym (remainder_at_once r (a ∷ b ∷ c ∷ d ∷ []) bytes)

-- sixteen bytes at once, of which the first four are the number w
spread_sixteen : (r w a b c d : ℕ) (s : List ℕ) → AreBytes (a ∷ b ∷ c ∷ d ∷ s) → length s ≡ 12 → r < 2 ^ 32
    → w < 2 ^ 32 → w ≡ word_in (a ∷ b ∷ c ∷ d ∷ [])
    → remainder_on r (a ∷ b ∷ c ∷ d ∷ s)
    ≡ bit_xor (bit_xor (bit_xor (bit_xor (spread s)
    (bits_shifted 104 (bit_xor r w / 16777216))) (bits_shifted 112 (bit_xor r w / 65536 % 256)))
    (bits_shifted 120 (bit_xor r w / 256 % 256))) (bits_shifted 128 (bit_xor r w % 256))
unfolding word_in
spread_sixteen r w a b c d s bytes long hr hw word =
    let y : ℕ = bit_xor r w in
    let v : ℕ = word_in s in
    let whole : ℕ = word_in (a ∷ b ∷ c ∷ d ∷ s) in
    let x : ℕ = bit_xor whole r in
    let within : y < 2 ^ 32 = xor_of_32 r w hr hw in
    let all : whole ≡ v * 2 ^ 32 + w = omega (arith, bytes 0, bytes 1, bytes 2, bytes 3) in
    let upper : whole / 2 ^ 32 ≡ v = omega arith in
    let lower : whole % 2 ^ 32 ≡ w = omega arith in
    let none : r / 2 ^ 32 ≡ 0 = omega arith in
    let rest : r % 2 ^ 32 ≡ r = omega arith in
    let high : x / 2 ^ 32 ≡ v =
    xor_shr whole r 32 ∙ (λ i. bit_xor (upper i) (none i)) ∙ xor_zero_r v in
    let low : x % 2 ^ 32 ≡ y = xor_mod whole r 32 ∙ (λ i. bit_xor (lower i) (rest i)) ∙ xor_comm w r in
    let above_all : x / 256 / 256 / 256 / 256 ≡ v = omega arith in
    let fourth : x / 256 / 256 / 256 % 256 ≡ y / 16777216 = omega arith in
    let third : x / 256 / 256 % 256 ≡ y / 65536 % 256 = omega arith in
    let second : x / 256 % 256 ≡ y / 256 % 256 = omega arith in
    let first : x % 256 ≡ y % 256 = omega arith in
    let twelve : 96 ≡ 8 * length s = omega arith in
    let sixteen : 8 * length (a ∷ b ∷ c ∷ d ∷ s) ≡ 128 = omega arith in
    remainder_at_once r (a ∷ b ∷ c ∷ d ∷ s) bytes
    ∙ ap (λ (k : ℕ). bits_shifted k x) sixteen
    ∙ in_sixteen x
    ∙ (λ i. bit_xor (bit_xor (bit_xor (bit_xor (bits_shifted (twelve i) (above_all i)) (bits_shifted 104 (fourth i)))
    (bits_shifted 112 (third i))) (bits_shifted 120 (second i))) (bits_shifted 128 (first i)))
    ∙ ap (λ (n : ℕ). bit_xor (bit_xor (bit_xor (bit_xor n (bits_shifted 104 (y / 16777216)))
    (bits_shifted 112 (y / 65536 % 256))) (bits_shifted 120 (y / 256 % 256))) (bits_shifted 128 (y % 256)))
    (spread_all s (λ k. bytes (suc (suc (suc (suc k))))))

entries_twelve : (e f g h i j k l m n o p : ℕ) {t : List (List ℕ)}
    → AreBytes (e ∷ f ∷ g ∷ h ∷ i ∷ j ∷ k ∷ l ∷ m ∷ n ∷ o ∷ p ∷ []) → t ≡ tables_of 8 16
    → bit_xor (bit_xor (bit_xor (bit_xor (bit_xor (bit_xor (bit_xor (bit_xor (bit_xor (bit_xor (bit_xor
    (slice_index_or (slice_index_or t 0 []) p 0)
    (slice_index_or (slice_index_or t 1 []) o 0)) (slice_index_or (slice_index_or t 2 []) n 0))
    (slice_index_or (slice_index_or t 3 []) m 0)) (slice_index_or (slice_index_or t 4 []) l 0))
    (slice_index_or (slice_index_or t 5 []) k 0)) (slice_index_or (slice_index_or t 6 []) j 0))
    (slice_index_or (slice_index_or t 7 []) i 0)) (slice_index_or (slice_index_or t 8 []) h 0))
    (slice_index_or (slice_index_or t 9 []) g 0)) (slice_index_or (slice_index_or t 10 []) f 0))
    (slice_index_or (slice_index_or t 11 []) e 0)
    ≡ spread (e ∷ f ∷ g ∷ h ∷ i ∷ j ∷ k ∷ l ∷ m ∷ n ∷ o ∷ p ∷ [])
unfolding spread
entries_twelve e f g h i j k l m n o p bytes same =
    (λ u. bit_xor (bit_xor (bit_xor (bit_xor (bit_xor (bit_xor (bit_xor (bit_xor (bit_xor (bit_xor (bit_xor
    ((entry 0 8 p same (omega arith) (omega arith) (bytes 11) ∙ sym (xor_zero_l (bits_shifted 8 p))) u)
    (entry 1 16 o same (omega arith) (omega arith) (bytes 10) u))
    (entry 2 24 n same (omega arith) (omega arith) (bytes 9) u))
    (entry 3 32 m same (omega arith) (omega arith) (bytes 8) u))
    (entry 4 40 l same (omega arith) (omega arith) (bytes 7) u))
    (entry 5 48 k same (omega arith) (omega arith) (bytes 6) u))
    (entry 6 56 j same (omega arith) (omega arith) (bytes 5) u))
    (entry 7 64 i same (omega arith) (omega arith) (bytes 4) u))
    (entry 8 72 h same (omega arith) (omega arith) (bytes 3) u))
    (entry 9 80 g same (omega arith) (omega arith) (bytes 2) u))
    (entry 10 88 f same (omega arith) (omega arith) (bytes 1) u))
    (entry 11 96 e same (omega arith) (omega arith) (bytes 0) u))

pub by_sixteen : (r w a b c d e f g h i j k l m n o p : ℕ) {t : List (List ℕ)}
    → AreBytes (a ∷ b ∷ c ∷ d ∷ e ∷ f ∷ g ∷ h ∷ i ∷ j ∷ k ∷ l ∷ m ∷ n ∷ o ∷ p ∷ []) → r < 2 ^ 32 → w < 2 ^ 32
    → w ≡ word_in (a ∷ b ∷ c ∷ d ∷ []) → t ≡ tables_of 8 16
    → bit_xor (bit_xor (bit_xor (bit_xor
    (bit_xor (bit_xor (bit_xor (bit_xor (bit_xor (bit_xor (bit_xor (bit_xor (bit_xor (bit_xor (bit_xor
    (slice_index_or (slice_index_or t 0 []) p 0)
    (slice_index_or (slice_index_or t 1 []) o 0)) (slice_index_or (slice_index_or t 2 []) n 0))
    (slice_index_or (slice_index_or t 3 []) m 0)) (slice_index_or (slice_index_or t 4 []) l 0))
    (slice_index_or (slice_index_or t 5 []) k 0)) (slice_index_or (slice_index_or t 6 []) j 0))
    (slice_index_or (slice_index_or t 7 []) i 0)) (slice_index_or (slice_index_or t 8 []) h 0))
    (slice_index_or (slice_index_or t 9 []) g 0)) (slice_index_or (slice_index_or t 10 []) f 0))
    (slice_index_or (slice_index_or t 11 []) e 0))
    (slice_index_or (slice_index_or t 12 []) (bit_xor r w / 16777216) 0))
    (slice_index_or (slice_index_or t 13 []) (bit_xor r w / 65536 % 256) 0))
    (slice_index_or (slice_index_or t 14 []) (bit_xor r w / 256 % 256) 0))
    (slice_index_or (slice_index_or t 15 []) (bit_xor r w % 256) 0)
    ≡ remainder_on r (a ∷ b ∷ c ∷ d ∷ e ∷ f ∷ g ∷ h ∷ i ∷ j ∷ k ∷ l ∷ m ∷ n ∷ o ∷ p ∷ [])
by_sixteen r w a b c d e f g h i j k l m n o p bytes hr hw word same =
    let y : ℕ = bit_xor r w in
    let within : y < 2 ^ 32 = xor_of_32 r w hr hw in
    (λ u. bit_xor (bit_xor (bit_xor (bit_xor
    (entries_twelve e f g h i j k l m n o p (λ z. bytes (suc (suc (suc (suc z))))) same u)
    (entry 12 104 (y / 16777216) same (omega arith) (omega arith) (omega arith) u))
    (entry 13 112 (y / 65536 % 256) same (omega arith) (omega arith) (omega arith) u))
    (entry 14 120 (y / 256 % 256) same (omega arith) (omega arith) (omega arith) u))
    (entry 15 128 (y % 256) same (omega arith) (omega arith) (omega arith) u))
    ∙ sym (spread_sixteen r w a b c d (e ∷ f ∷ g ∷ h ∷ i ∷ j ∷ k ∷ l ∷ m ∷ n ∷ o ∷ p ∷ []) bytes refl hr hw word)
