-- Set-ups worked out: with which number each is answered, and which setting is refused (RULES, Inputs, Passwords, The
-- legal record and Class 2).
--   named_set_up name inputs lamp      a Class 1 set-up of these, W = 20 and C = 60
--   secured_set_up password inputs     the same with this password
--   class_2_set_up inputs names        a Class 2 set-up of these
--   whole_set_up name .. cool          of each setting of Class 1 by itself
--   in_turn c                          each setting of Class 1 out of its range in turn, the others in theirs but
--                                      for C = c
--   texts_set_up serial version names  a Class 2 set-up of these
--   nine_settings                      those of Class 1, in the order of the table
--   w is_numbered n                    the set-up w gives the number n
--   AreNumbered rows                   each row of such holds
--   set_up_refuses w                   which setting of w is refused
-- Assumes nothing.
use Prim.Native.String.{String}
use Prim.Native.Char.{code}
use Rattle.std.specs.Prelude.{ℕ, ◌≡◌, List, [], ◌∷◌, Option, replicate, codes}
use Rattle.text.specs.Outcomes.{call_number}
use Rattle.record.specs.Limits.{lamp_limit}
use Rattle.record.specs.Wanted.{Wanted, wanted_of, wanted_of_2}
use Rattle.record.specs.SetUp.{set_up}
use Rattle.record.specs.SetUpErrors.{set_up_error_number, setting_told}
use Rattle.record.specs.declared.types.Setting.{Setting}
use Rattle.record.specs.declared.types.Setting.TheVariants.{Name, Maker, Model, Other, Password, Inputs, Lamps, WarmUp}
use Rattle.record.specs.declared.types.Setting.TheVariants.{Cooling}

infix 30 ◌is_numbered◌
abbrev pub named_set_up : String → String → ℕ → Wanted
named_set_up name inputs lamp = wanted_of (codes name) [] [] [] [] (codes inputs) (lamp ∷ []) 20 60

abbrev pub secured_set_up : String → String → Wanted
secured_set_up password inputs = wanted_of [] [] [] [] (codes password) (codes inputs) (0 ∷ []) 20 60

abbrev pub class_2_set_up : String → List (List ℕ) → Wanted
class_2_set_up inputs names =
    wanted_of_2 [] [] [] [] [] (codes inputs) (0 ∷ []) 20 60 (codes "S-1") (codes "1.0") names

abbrev pub whole_set_up : (name maker model other password inputs : String) (lamp warm cool : ℕ) → Wanted
whole_set_up name maker model other password inputs lamp warm cool =
    wanted_of (codes name) (codes maker) (codes model) (codes other) (codes password) (codes inputs) (lamp ∷ [])
    warm cool

abbrev pub texts_set_up : (serial version : String) (names : List (List ℕ)) → Wanted
texts_set_up serial version names =
    wanted_of_2 [] [] [] [] [] (codes "11") [] 20 60 (codes serial) (codes version) names

abbrev pub in_turn : ℕ → List Wanted
in_turn c =
    whole_set_up "ERR1" "" "" "" "" "11" 0 20 c
    ∷ whole_set_up "" "ERR1" "" "" "" "11" 0 20 c
    ∷ whole_set_up "" "" "ERR1" "" "" "11" 0 20 c
    ∷ whole_set_up "" "" "" "ERR1" "" "11" 0 20 c
    ∷ whole_set_up "" "" "" "" "pass word" "11" 0 20 c
    ∷ whole_set_up "" "" "" "" "" "10" 0 20 c
    ∷ whole_set_up "" "" "" "" "" "11" 360000000 20 c
    ∷ whole_set_up "" "" "" "" "" "11" 0 601 c
    ∷ whole_set_up "" "" "" "" "" "11" 0 20 0
    ∷ []

abbrev pub nine_settings : List Setting
nine_settings = Name ∷ Maker ∷ Model ∷ Other ∷ Password ∷ Inputs ∷ Lamps ∷ WarmUp ∷ Cooling ∷ []

pub record NumberedSetUp : Type 0 where
  pub wanted : Wanted
  pub number : ℕ

abbrev pub ◌is_numbered◌ : Wanted → ℕ → NumberedSetUp
w is_numbered n = record { wanted = w; number = n }

-- no number 0, no type 6, no half input, none twice in Class 1; in Class 2 type 6 and letters in upper case
abbrev pub input_rows : List NumberedSetUp
input_rows =
    (named_set_up "" "11" 0 is_numbered 0)
    ∷ (named_set_up "ERR5" "1159" lamp_limit is_numbered 0)
    ∷ (named_set_up "ERR3" "11" 0 is_numbered 3)
    ∷ (named_set_up "" "10" 0 is_numbered 3)
    ∷ (named_set_up "" "20" 0 is_numbered 3)
    ∷ (named_set_up "" "61" 0 is_numbered 3)
    ∷ (named_set_up "" "1A" 0 is_numbered 3)
    ∷ (named_set_up "" "" 0 is_numbered 3)
    ∷ (named_set_up "" "115" 0 is_numbered 3)
    ∷ (named_set_up "" "1111" 0 is_numbered 3)
    ∷ (named_set_up "" "11" 360000000 is_numbered 3)
    ∷ []

-- 32 inputs, and one more
abbrev pub most_input_rows : List NumberedSetUp
most_input_rows =
    (named_set_up "" "1112131415161718192122232425262728293132333435363738394142434445" 0 is_numbered 0)
    ∷ (named_set_up "" "111213141516171819212223242526272829313233343536373839414243444546" 0 is_numbered 3)
    ∷ []

-- none, one, seven, eight and 32 characters; then what is 3 and not 8: a space among seven, 33, an input that is none
abbrev pub password_rows : List NumberedSetUp
password_rows =
    (secured_set_up "" "11" is_numbered 0)
    ∷ (secured_set_up "a" "11" is_numbered 8)
    ∷ (secured_set_up "abcdef7" "11" is_numbered 8)
    ∷ (secured_set_up "abcdefg8" "11" is_numbered 0)
    ∷ (secured_set_up "abcdefghijklmnopqrstuvwxyz012345" "11" is_numbered 0)
    ∷ (secured_set_up "abc def" "11" is_numbered 3)
    ∷ (secured_set_up "abcdefghijklmnopqrstuvwxyz0123456" "11" is_numbered 3)
    ∷ (secured_set_up "abcdef7" "10" is_numbered 3)
    ∷ []

-- INTERNAL and a number that is a letter are of Class 2; type 7, a number 0 and a small letter are of neither. A name
-- for each input, and no more
abbrev pub class_2_set_up_rows : List NumberedSetUp
class_2_set_up_rows =
    (class_2_set_up "61" (codes "Cast" ∷ []) is_numbered 0)
    ∷ (class_2_set_up "1A6Z" (codes "A" ∷ [] ∷ []) is_numbered 0)
    ∷ (class_2_set_up "71" ([] ∷ []) is_numbered 3)
    ∷ (class_2_set_up "10" ([] ∷ []) is_numbered 3)
    ∷ (class_2_set_up "1a" ([] ∷ []) is_numbered 3)
    ∷ (class_2_set_up "1112" [] is_numbered 3)
    ∷ (class_2_set_up "1112" (codes "A" ∷ []) is_numbered 3)
    ∷ (class_2_set_up "11" (codes "A" ∷ codes "B" ∷ []) is_numbered 3)
    ∷ (class_2_set_up "11" (codes "ERR3" ∷ []) is_numbered 3)
    ∷ (class_2_set_up "11" (replicate 128 (code "a") ∷ []) is_numbered 0)
    ∷ (class_2_set_up "11" (replicate 129 (code "a") ∷ []) is_numbered 3)
    ∷ []

abbrev pub AreNumbered : List NumberedSetUp → Type 0
AreNumbered [] = Unit {0}
AreNumbered (row ∷ rows) = (call_number set_up_error_number (set_up row.wanted) ≡ row.number) × AreNumbered rows

abbrev pub set_up_refuses : Wanted → Option Setting
set_up_refuses w = setting_told (set_up w).says
