-- The inputs of a set-up, which keeps them as pairs of characters (RULES, The legal record and Commands). What a pair
-- stands for is in the table of RULES, Inputs (`input_for`); the other files of this crate know inputs only.
--   pairs_of s           the characters in use: the first 2 × input_count, and no more than the array has
--   input_of_pair a b    the input for which a pair stands; one that stands for none is in no legal set-up
--   pair_input p         the input for which the pair p stands
--   inputs_of_pairs cs   the inputs of pairs, in their order
--   inputs_of s          the inputs in set-up order
--   index_in i is        the first index of the input i among the inputs is; if it is not there, their number
--   listed_index s i         the first index of the input i in the set-up; if it is not there, the number of inputs
--   is_listed s i        the input i is in the set-up
-- Assumes nothing.
use Rattle.std.specs.Prelude.{ℕ, suc, ◌*◌, Bool, List, [], ◌∷◌, take, unwrap_or, if◌then◌else◌}
use Rattle.std.specs.Prelude.{slice_index_or, nat_lt}
use Rattle.words.specs.Sources.{is_same_input, input_for}
use Rattle.words.specs.declared.input.Source.TheVariants.{Rgb}
use Rattle.words.specs.declared.input.Input.{Input}
use Rattle.record.specs.declared.types.Settings.{Settings}

abbrev pub pairs_of : Settings → List ℕ
pairs_of s = take (2 * s.input_count) s.inputs

abbrev pub no_input : Input
no_input = record { source = Rgb; number = 0 }

abbrev pub input_of_pair : ℕ → ℕ → Input
input_of_pair a b = unwrap_or (input_for a b) no_input

abbrev pub pair_input : List ℕ → Input
pair_input p = input_of_pair (slice_index_or p 0 0) (slice_index_or p 1 0)

unfoldable pub inputs_of_pairs : List ℕ → List Input
inputs_of_pairs [] = []
inputs_of_pairs (a ∷ []) = []
inputs_of_pairs (a ∷ b ∷ cs) = input_of_pair a b ∷ inputs_of_pairs cs

abbrev pub inputs_of : Settings → List Input
inputs_of s = inputs_of_pairs (pairs_of s)

unfoldable pub index_in : Input → List Input → ℕ
index_in i [] = 0
index_in i (x ∷ xs) = if is_same_input x i then 0 else suc (index_in i xs)

abbrev pub listed_index : Settings → Input → ℕ
listed_index s i = index_in i (inputs_of s)

abbrev pub is_listed : Settings → Input → Bool
is_listed s i = nat_lt (listed_index s i) s.input_count
