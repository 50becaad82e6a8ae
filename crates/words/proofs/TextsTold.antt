-- What the rules of texts tell: their lengths and their bytes.
-- Assumes nothing.
use Rattle.std.proofs.Common.{arith, ℕ, ◌≤◌, ◌≡◌, ◌&&◌, true, List, length, refl}
use Rattle.std.specs.List.{list_all}
use Rattle.std.specs.Str.{is_utf8}
use Rattle.text.proofs.Choices.{both_left}
use Rattle.words.specs.Texts.{is_text_byte, is_text, is_name, is_info, is_input_name}
use Rattle.words.specs.Texts.{is_password, name_most, info_most, input_name_most, password_most}

module _ (s : List ℕ) where
  text_long : (n : ℕ) → is_text n s ≡ true → length s ≤ n
  unfolding is_text
  text_long n h = grind arith

  -- a name is such a text, and in UTF-8
  pub name_by_tests : is_name s ≡ (is_text name_most s && is_utf8 s)
  unfolding is_name
  name_by_tests = refl

  pub name_is_text : is_name s ≡ true → is_text name_most s ≡ true
  unfolding is_name
  name_is_text h = both_left (is_text name_most s) (is_utf8 s) h

  pub name_long : is_name s ≡ true → length s ≤ name_most
  name_long h = text_long name_most (name_is_text h)

  pub info_long : is_info s ≡ true → length s ≤ info_most
  info_long h = text_long info_most h

  pub input_name_long : is_input_name s ≡ true → length s ≤ input_name_most
  input_name_long h = text_long input_name_most h

  pub password_long : is_password s ≡ true → length s ≤ password_most
  unfolding is_password
  password_long h = grind arith

pub text_bytes : (n : ℕ) (s : List ℕ) → is_text n s ≡ true → list_all is_text_byte s ≡ true
unfolding is_text
text_bytes n s e = grind arith
