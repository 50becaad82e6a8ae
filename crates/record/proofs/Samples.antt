-- The set-ups of specs/Worked.antt, with inputs, passwords and classes on both sides of the rules for them, and which
-- setting was refused, computed.
-- Assumes nothing.
use Rattle.std.proofs.Common.{◌≡◌, refl, true, false, [], ◌∷◌, map, codes, Some, None}
use Rattle.record.specs.Limits.{lamp_limit}
use Rattle.record.specs.Wanted.{names_in}
use Rattle.record.specs.Record.{start_device}
use Rattle.record.specs.Legal.{is_legal}
use Rattle.record.specs.Worked.{named_set_up, secured_set_up, class_2_set_up, whole_set_up, texts_set_up, in_turn}
use Rattle.record.specs.Worked.{AreNumbered, input_rows, most_input_rows, password_rows, class_2_set_up_rows}
use Rattle.record.specs.Worked.{nine_settings, set_up_refuses}
use Rattle.record.specs.Computing.{computing}
use Rattle.record.specs.declared.types.Setting.TheVariants.{Password, Cooling, Serial, Version, Names}

pub settles : is_legal (start_device (named_set_up "" "11" 0)) ≡ true
unfolding computing
settles = refl

pub numbered : AreNumbered input_rows
unfolding computing
numbered = (refl, (refl, (refl, (refl, (refl, (refl, (refl, (refl, (refl, (refl, (refl, tt)))))))))))

pub sockets_numbered : AreNumbered most_input_rows
unfolding computing
sockets_numbered = (refl, (refl, tt))

pub passwords_numbered : AreNumbered password_rows
unfolding computing
passwords_numbered = (refl, (refl, (refl, (refl, (refl, (refl, (refl, (refl, tt))))))))

pub classes_numbered : AreNumbered class_2_set_up_rows
unfolding computing
classes_numbered = (refl, (refl, (refl, (refl, (refl, (refl, (refl, (refl, (refl, (refl, (refl, tt)))))))))))

pub seven_illegal : is_legal (start_device (secured_set_up "abcdef7" "11")) ≡ false
unfolding computing
seven_illegal = refl

pub eight_legal : is_legal (start_device (secured_set_up "abcdefg8" "11")) ≡ true
unfolding computing
eight_legal = refl

pub named_legal : is_legal (start_device (class_2_set_up "1A6Z" (codes "A" ∷ codes "Cast" ∷ []))) ≡ true
unfolding computing
named_legal = refl

pub each_setting_told : map set_up_refuses (in_turn 60) ≡ map Some nine_settings
unfolding computing
each_setting_told = refl

pub first_of_two_told : map set_up_refuses (in_turn 0) ≡ map Some nine_settings
unfolding computing
first_of_two_told = refl

pub no_setting_told : set_up_refuses (whole_set_up "ERR5" "" "" "" "password" "1159" lamp_limit 600 600) ≡ None
unfolding computing
no_setting_told = refl

pub short_password_told : set_up_refuses (whole_set_up "" "" "" "" "abcdef7" "11" 0 20 60) ≡ Some Password
unfolding computing
short_password_told = refl

-- a password of seven characters is in its range
pub later_setting_told : set_up_refuses (whole_set_up "" "" "" "" "abcdef7" "11" 0 20 0) ≡ Some Cooling
unfolding computing
later_setting_told = refl

pub setting_of_2_told :
    map set_up_refuses
    (texts_set_up "ERR1" "ERR1" [] ∷ texts_set_up "" "ERR1" [] ∷ texts_set_up "" "" [] ∷ texts_set_up "" "" ([] ∷ [])
    ∷ [])
    ≡ Some Serial ∷ Some Version ∷ Some Names ∷ None ∷ []
unfolding computing
setting_of_2_told = refl

-- names one after the other, by their lengths; lengths that do not add up name nothing
pub names_cut : names_in (4 ∷ 0 ∷ 1 ∷ []) (codes "CastB") ≡ codes "Cast" ∷ [] ∷ codes "B" ∷ []
names_cut = refl

pub names_short : names_in (4 ∷ 2 ∷ []) (codes "CastB") ≡ []
names_short = refl

pub ruleset numbered_set_ups = (
  numbered,
  sockets_numbered,
  passwords_numbered,
  classes_numbered,
  settles,
  seven_illegal,
  eight_legal,
  named_legal,
)

pub ruleset told_settings = (
  each_setting_told,
  first_of_two_told,
  no_setting_told,
  short_password_told,
  later_setting_told,
  setting_of_2_told,
  names_cut,
  names_short,
)
