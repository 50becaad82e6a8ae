-- A projector's password in its room (RULES, Panel and Passwords): 0 to 32 letters and digits at the start, and zero
-- after them.
--   password_of s        the password s in its room
--   no_password          no password, in its room
--   is_password_kept t   the password t is legal: one that the controller's writer takes, and zero after it
-- Assumes nothing.
use Rattle.std.specs.Prelude.{ℕ, ◌==◌, Bool, List, length, replicate}
use Rattle.text.specs.Rooms.{used_part, holds, filled_room}
use Rattle.words.specs.Texts.{is_password}
use Rattle.panel.specs.declared.types.Password.{Password}

abbrev pub password_room : ℕ
password_room = 64

abbrev pub password_of : List ℕ → Password
password_of s = record { len = length s; bytes = filled_room 0 password_room s }

abbrev pub no_password : Password
no_password = record { len = 0; bytes = replicate password_room 0 }

abbrev pub is_password_kept : Password → Bool
is_password_kept t = holds is_password (used_part (λ x. x == 0) password_room t.bytes t.len)
