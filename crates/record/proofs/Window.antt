-- The window through which a text in its room is seen: what the low end of each byte must be.
--   window           128 spaces, and 128 zeros after them
-- Assumes nothing.
use Rattle.std.specs.List.{list_all}
use Rattle.std.proofs.Common.{◌≡◌, ℕ, ◌+◌, ◌-◌, ◌<◌, ◌≤◌, min, List, ◌++◌, length, take, drop, replicate, ◌∙◌, arith}
use Rattle.std.proofs.Common.{true, false, not, ◌&&◌, [], slice_index_or, nat_le, ◌==◌, is_some, refl}
use Rattle.std.proofs.lemmas.List.{get_or-take, get_or-drop, get_or-replicate, get_or_append_left, length-replicate}
use Rattle.std.proofs.Math.Seq.{get_or-append_right, length-take-le}
use Rattle.std.specs.Str.{is_utf8}
use Rattle.words.specs.Bytes.{is_cr_free}
use Rattle.words.specs.Texts.{is_text_byte, is_text, is_error_reply, is_name, name_most}
use Rattle.words.proofs.WithinLength.{text_within, text_longer}
use Rattle.words.proofs.Characters.{no_cr_of}
use Rattle.words.proofs.TextsTold.{name_by_tests}
use Rattle.text.specs.Rooms.{used_part}
use Rattle.record.specs.Legal.{is_zero, fills_room}
use Rattle.record.proofs.Rules.{empty_text}
use Rattle.text.proofs.RoomsTold.{used_many, used_blank, used_not_blank, is_some_used, holds_used}
use Rattle.std.proofs.lemmas.Grind.{common_steps}

abbrev spaces : List ℕ
spaces = replicate 128 0x20

abbrev none : List ℕ
none = replicate 128 0

abbrev pub window : List ℕ
window = spaces ++ none

module _ (n m k : ℕ) (fits : n ≤ 128) (room : m ≤ 128) (h : k < m) where
  abbrev cut : List ℕ
  cut = take ((128 - n + m) - (128 - n)) (drop (128 - n) window)

  at : slice_index_or cut k 0 ≡ slice_index_or window (128 - n + k) 0
  at = grind (arith, get_or-take, get_or-drop)

  half : length spaces ≡ 128
  half = length-replicate {A = ℕ} 128 0x20

  pub wanted_space : k < n → slice_index_or cut k 0 ≡ 0x20
  wanted_space g =
      at ∙ get_or_append_left spaces none 0 (128 - n + k) (omega (arith, half))
      ∙ get_or-replicate 128 (128 - n + k) 0x20 0 (omega arith)

  pub wanted_zero : n ≤ k → slice_index_or cut k 0 ≡ 0
  wanted_zero g =
      at ∙ get_or-append_right spaces none (128 - n + k) 0 (omega (arith, half))
      ∙ get_or-replicate 128 (128 - n + k - length spaces) 0 0 (omega (arith, half))

module _ (b w r : ℕ) (low : r ≡ min b 0x20) where
  pub low_used : b ≤ 0xFF → w ≡ 0x20 → (r == w) ≡ is_text_byte b
  low_used small e = grind (arith, low, e)

  pub low_unused : w ≡ 0 → (r == w) ≡ is_zero b
  low_unused e = grind (arith, low, e)

-- the rule of a text, by the tests of its length and of its bytes
text_by_tests : (s : List ℕ) (m : ℕ) →
    is_text m s ≡ (nat_le (length s) m && list_all is_text_byte s && not (is_error_reply s))
text_by_tests s m = grind (arith, common_steps, text_within s m, text_longer s m)

-- a text in its room, by what one pass finds: the tests in their order
pub text_filled : (room : ℕ) (s : List ℕ) (n most : ℕ) → length s ≡ room → fills_room room (is_text most) s n
    ≡ (nat_le n most && nat_le n room && (list_all is_zero (drop n s) && list_all is_text_byte (take n s))
    && not (is_error_reply (take n s)))
unfolding fills_room
text_filled room s n most long = grind (arith, used_blank, used_not_blank, used_many, text_by_tests, length-take-le)

-- no name in its room: nothing of it is used
module _ (room : ℕ) (s : List ℕ) (long : length s ≡ room) where
  none_named : fills_room room (is_text 0) s 0 ≡ is_some (used_part is_zero room s 0)
  unfolding fills_room
  none_named = grind (arith, empty_text, is_some_used, holds_used)

  some_named : (n : ℕ) → 0 < n → fills_room room (is_text 0) s n ≡ false
  unfolding fills_room
  some_named n some = grind (arith, used_blank, used_not_blank, used_many, text_longer, length-take-le)

  pub no_name : (n : ℕ) → fills_room room (is_text 0) s n ≡ (n == 0 && is_some (used_part is_zero room s 0))
  no_name n = grind (arith, none_named, some_named)

-- no line in its room: all of it is zero
pub empty_line : (room : ℕ) (s : List ℕ) → length s ≡ room → fills_room room is_cr_free s 0 ≡ list_all is_zero s
unfolding fills_room
empty_line room s long =
    let none : is_cr_free [] ≡ true = no_cr_of [] refl in
    grind (arith, holds_used, none)

-- a name in its room: a text there, in UTF-8
pub name_filled : (room : ℕ) (s : List ℕ) (n : ℕ) → length s ≡ room
    → fills_room room is_name s n ≡ (fills_room room (is_text name_most) s n && is_utf8 (take n s))
unfolding fills_room
name_filled room s n long = grind (arith, used_blank, used_not_blank, used_many, name_by_tests)
