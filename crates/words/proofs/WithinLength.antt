-- Where the length is known, what is left of a rule is a rule of each byte; over its length no rule is met.
-- Assumes nothing.
use Rattle.std.specs.List.{list_all}
use Rattle.std.proofs.Common.{ℕ, ◌<◌, ◌≤◌, ◌≡◌, false, not, ◌&&◌, List, length, le-leb}
use Rattle.std.proofs.lemmas.Bool.{lt-leb}
use Rattle.words.specs.Bytes.{is_alnum}
use Rattle.words.specs.Texts.{is_error_reply, is_text_byte, is_text, is_password, password_most}

module _ (s : List ℕ) where
  pub text_within : (n : ℕ) → length s ≤ n → is_text n s ≡ (list_all is_text_byte s && not (is_error_reply s))
  unfolding is_text
  text_within n h = rw (le-leb (length s) n h)

  pub text_longer : (n : ℕ) → n < length s → is_text n s ≡ false
  unfolding is_text
  text_longer n h = rw (lt-leb (length s) n h)

  pub password_within : length s ≤ password_most → is_password s ≡ list_all is_alnum s
  unfolding is_password
  password_within h = rw (le-leb (length s) password_most h)
