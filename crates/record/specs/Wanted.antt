-- What set-up is lent (RULES, The legal record), in its order.
--   Wanted                the nine settings: an input is two ASCII characters, lamps are their starting seconds. Then
--                         the class, and what Class 2 alone has (RULES, Class 2): a serial number, a version, a name
--                         for each input
--   wanted_of ..          a Class 1 set-up, of what a call is lent, each setting by itself
--   wanted_of_2 ..        a Class 2 set-up
--   with_password p w     with another password
--   total_of ns           the numbers ns added up
--   cut_by ns s           s cut into parts of the lengths ns
--   names_in ns s         these parts, where they are all of s: names whose lengths do not add up are none
--   counted_in n s        n names that stand in s, each after its length in one byte
-- Assumes nothing.
use Rattle.std.specs.Prelude.{ℕ, zero, suc, ◌+◌, List, [], ◌∷◌, length, take, drop, if◌then◌else◌, ◌==◌}
use Rattle.words.specs.Bytes.{◌at◌}

pub record Wanted : Type 0 where
  pub name : List ℕ
  pub maker : List ℕ
  pub model : List ℕ
  pub other : List ℕ
  pub password : List ℕ
  pub inputs : List ℕ
  pub lamps : List ℕ
  pub warm : ℕ
  pub cool : ℕ
  pub class : ℕ
  pub serial : List ℕ
  pub version : List ℕ
  pub names : List (List ℕ)

abbrev pub wanted_in : (class : ℕ) (name maker model other password inputs lamps : List ℕ) (warm cool : ℕ)
    (serial version : List ℕ) (names : List (List ℕ)) → Wanted
wanted_in class name maker model other password inputs lamps warm cool serial version names = record {
  name = name;
  maker = maker;
  model = model;
  other = other;
  password = password;
  inputs = inputs;
  lamps = lamps;
  warm = warm;
  cool = cool;
  class = class;
  serial = serial;
  version = version;
  names = names;
}

abbrev pub wanted_of : (name maker model other password inputs lamps : List ℕ) (warm cool : ℕ) → Wanted
wanted_of name maker model other password inputs lamps warm cool =
    wanted_in 1 name maker model other password inputs lamps warm cool [] [] []

abbrev pub wanted_of_2 : (name maker model other password inputs lamps : List ℕ) (warm cool : ℕ)
    (serial version : List ℕ) (names : List (List ℕ)) → Wanted
wanted_of_2 name maker model other password inputs lamps warm cool serial version names =
    wanted_in 2 name maker model other password inputs lamps warm cool serial version names

abbrev pub with_password : List ℕ → Wanted → Wanted
with_password password w =
    wanted_in w.class w.name w.maker w.model w.other password w.inputs w.lamps w.warm w.cool
    w.serial w.version w.names

abbrev pub total_of : List ℕ → ℕ
total_of [] = 0
total_of (n ∷ ns) = n + total_of ns

abbrev pub cut_by : List ℕ → List ℕ → List (List ℕ)
cut_by [] s = []
cut_by (n ∷ ns) s = take n s ∷ cut_by ns (drop n s)

abbrev pub names_in : List ℕ → List ℕ → List (List ℕ)
names_in ns s = if total_of ns == length s then cut_by ns s else []

unfoldable pub counted_in : ℕ → List ℕ → List (List ℕ)
counted_in zero s = []
counted_in (suc n) s = take (s at 0) (drop 1 s) ∷ counted_in n (drop (suc (s at 0)) s)
