-- The numbers that calls give (RULES, The numbers a call gives), and the settings of a set-up, in words.
--   number_text n    the meaning of the number n: of 0 that the call is served; of 13 to 19 and above 23 that no call
--                    gives it
--   setting_text n   the name of the setting with the number n in the order of set-up: of 0 that it is none; above 12
--                    that there is no such setting
--   in_c s           the text s as C has it: with a NUL after it
--   is_printed s     each character of s is a printable one of ASCII, or a space; none is a NUL
-- Assumes nothing.
use Rattle.std.specs.Prelude.{ℕ, Bool, ◌&&◌, nat_le, List, [], ◌∷◌, ◌++◌, codes, if◌then◌else◌, ◌==◌}
use Rattle.std.specs.List.{list_all}

abbrev pub in_c : List ℕ → List ℕ
in_c s = s ++ 0 ∷ []

abbrev pub number_text : ℕ → List ℕ
number_text n =
    if n == 0 then codes "served"
    else if n == 1 then codes "not a legal record"
    else if n == 2 then codes "the lent memory is too small"
    else if n == 3 then codes "an argument is out of its range"
    else if n == 4 then codes "the connection at that place is closed"
    else if n == 5 then codes "place 0 is not closed"
    else if n == 6 then codes "no place is closed"
    else if n == 7 then codes "the power is not off"
    else if n == 8 then codes "a password of 1 to 7 characters"
    else if n == 9 then codes "no greeting yet, or a command under way"
    else if n == 10 then codes "no greeting, or no reply of the command's class"
    else if n == 11 then codes "a reply to another command"
    else if n == 12 then codes "a reply with a parameter that is not allowed there"
    else if n == 20 then codes "not a stored form of a version that this program knows"
    else if n == 21 then codes "a stored form that is cut short"
    else if n == 22 then codes "bytes are left over after the stored form"
    else if n == 23 then codes "a stored form with contents that no set-up has"
    else codes "a number that no call gives"

abbrev pub setting_text : ℕ → List ℕ
setting_text n =
    if n == 0 then codes "no setting"
    else if n == 1 then codes "the name"
    else if n == 2 then codes "the maker"
    else if n == 3 then codes "the model"
    else if n == 4 then codes "the other information"
    else if n == 5 then codes "the password"
    else if n == 6 then codes "the inputs"
    else if n == 7 then codes "the lamps' seconds"
    else if n == 8 then codes "the warm-up"
    else if n == 9 then codes "the cooling"
    else if n == 10 then codes "the serial number"
    else if n == 11 then codes "the software version"
    else if n == 12 then codes "the inputs' names"
    else codes "a setting that there is not"

abbrev pub is_printed : List ℕ → Bool
is_printed s = list_all (λ c. nat_le 32 c && nat_le c 126) s
