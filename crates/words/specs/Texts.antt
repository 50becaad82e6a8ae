-- Texts of the set-up and of replies (RULES, The legal record and Controller; PJLink 1.04, 4.10 to 4.13 and 5.1).
--   is_error_reply s      s is exactly ERR1, ERR2, ERR3 or ERR4
--   is_text n s       s is 0 to n bytes, each 0x20 to 0xFF, and no error reply, from which a reader could not tell it
--   is_name s         s follows the rule of the name: a text of at most 64 bytes, in UTF-8 (RULES, Texts), by the table
--                     of specs/Utf8
--   is_info s         s follows the rule of maker, model, other information, serial number and version (RULES, Class 2)
--   is_input_name s   s follows the rule of an input's name (RULES, Class 2)
--   is_password s     s is 0 to 32 ASCII letters and digits
-- PJLink 1.04, 4.11 to 4.13, narrows INF1, INF2 and INFO to 0x20 to 0x7E; the rule of RULES, Texts, is for all of them.
-- Assumes nothing.
use Rattle.std.specs.List.{list_all}
use Rattle.std.specs.Prelude.{ℕ, Bool, not, ◌&&◌, List, length, nat_le, ◌==◌}
use Rattle.std.specs.Str.{is_utf8}
use Rattle.text.specs.Words.{◌is◌, ◌from◌to◌}
use Rattle.words.specs.Bytes.{is_alnum, ◌at◌}

unfoldable pub is_error_reply : List ℕ → Bool
is_error_reply s = length s == 4 && s at 0 is "E" && s at 1 is "R" && s at 2 is "R" && s at 3 from "1" to "4"

abbrev pub is_text_byte : ℕ → Bool
is_text_byte b = nat_le 0x20 b && nat_le b 0xFF

unfoldable pub is_text : ℕ → List ℕ → Bool
is_text n s = nat_le (length s) n && list_all is_text_byte s && not (is_error_reply s)

abbrev pub name_most : ℕ
name_most = 64

abbrev pub info_most : ℕ
info_most = 32

abbrev pub input_name_most : ℕ
input_name_most = 128

abbrev pub password_most : ℕ
password_most = 32

unfoldable pub is_name : List ℕ → Bool
is_name s = is_text name_most s && is_utf8 s

abbrev pub is_info : List ℕ → Bool
is_info s = is_text info_most s

abbrev pub is_input_name : List ℕ → Bool
is_input_name s = is_text input_name_most s

unfoldable pub is_password : List ℕ → Bool
is_password s = nat_le (length s) password_most && list_all is_alnum s
