-- What the settings have to be (RULES, The legal record). The rules of texts and of a password's characters are those
-- of `words`.
--   is_long_enough n       n characters are a password's: none, which is no security, or 8 and more (RULES, Passwords)
--   is_set_up_password s   the rule of set-up: as the controller's writer has it (`is_password`), and long enough
--   are_pairs f s          s is pairs, and each pair passes the test f, which also sees what follows it
--   is_none a b s          the input a b is none of the inputs s: each of them is another (is_other)
--   is_new_input k a b s   the characters a b name an input of the class k, which none of the later ones s repeats
--   are_named k s         s is pairs, each of which names an input of the class k
--   input_index a b        the place of the input a b, at which the code marks it
--   is_inputs k s          there is a class k (RULES, Class 2), and s are 1 to 32 inputs of it, two characters each,
--                          all different
--   is_lamp x              a lamp's seconds are at most the limit
--   is_lamps xs            0 to 8 lamps
--   is_marks n ms          the enabled marks of n lamps (RULES, Lamps), flags: none raised past them, and one at least
--                          where there are lamps
--   is_transition n           1 to 600 seconds, of warm-up or of cooling
--   is_error_list ds       six error digits, each 0 to 2
--   are_names n ns         the names of n inputs (RULES, Class 2)
--   is_volume v            a volume is 0 to 20 (RULES, Class 2)
-- Assumes nothing.
use Rattle.std.specs.Prelude.{ℕ, ◌+◌, ◌-◌, ◌*◌, Bool, true, false, not, ◌&&◌, ◌||◌, List, [], ◌∷◌, length, drop, nat_le}
use Rattle.std.specs.Prelude.{◌==◌}
use Rattle.std.specs.List.{list_all}
use Prim.Native.Char.{code}
use Rattle.text.specs.Flags.{is_flag, is_lowered}
use Rattle.words.specs.Inputs.{is_input_text}
use Rattle.words.specs.Texts.{is_password, is_input_name}
use Rattle.record.specs.Limits.{password_least, input_room, lamps_most, lamp_limit, transition_most}
use Rattle.record.specs.Limits.{errors_count, error_most, is_class_number, volume_most}

abbrev pub is_at_most : ℕ → ℕ → Bool
is_at_most n x = nat_le x n

abbrev pub is_long_enough : ℕ → Bool
is_long_enough n = n == 0 || nat_le password_least n

unfoldable pub is_set_up_password : List ℕ → Bool
is_set_up_password s = is_password s && is_long_enough (length s)

unfoldable pub are_pairs : (ℕ → ℕ → List ℕ → Bool) → List ℕ → Bool
are_pairs f [] = true
are_pairs f (a ∷ []) = false
are_pairs f (a ∷ b ∷ s) = f a b s && are_pairs f s

abbrev pub is_other : ℕ → ℕ → ℕ → ℕ → Bool
is_other a b x y = not (x == a && y == b)

unfoldable pub is_none : ℕ → ℕ → List ℕ → Bool
is_none a b s = are_pairs (λ x y later. is_other a b x y) s

abbrev pub is_new_input : ℕ → ℕ → ℕ → List ℕ → Bool
is_new_input k a b later = is_input_text k a b && is_none a b later

unfoldable pub are_named : ℕ → List ℕ → Bool
are_named k s = are_pairs (λ a b later. is_input_text k a b) s

-- in a table of a row for each type; a row has a place for each character from 1 to Z
abbrev pub input_index : ℕ → ℕ → ℕ
input_index a b = 42 * (a - code "1") + (b - code "1")

unfoldable pub is_inputs : ℕ → List ℕ → Bool
is_inputs k s = is_class_number k && nat_le 2 (length s) && nat_le (length s) input_room && are_pairs (is_new_input k) s

abbrev pub is_lamp : ℕ → Bool
is_lamp x = is_at_most lamp_limit x

unfoldable pub is_lamps : List ℕ → Bool
is_lamps xs = nat_le (length xs) lamps_most && list_all is_lamp xs

unfoldable pub is_marks : ℕ → List ℕ → Bool
is_marks n ms =
    length ms == lamps_most && list_all is_lowered (drop n ms) && list_all is_flag ms
    && (n == 0 || not (list_all is_lowered ms))

abbrev pub is_transition : ℕ → Bool
is_transition n = nat_le 1 n && nat_le n transition_most

unfoldable pub is_error_list : List ℕ → Bool
is_error_list ds = length ds == errors_count && list_all (is_at_most error_most) ds

unfoldable pub are_names : ℕ → List (List ℕ) → Bool
are_names n ns = length ns == n && list_all is_input_name ns

abbrev pub is_volume : ℕ → Bool
is_volume v = is_at_most volume_most v
