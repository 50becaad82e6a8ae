-- What the rules of set-up tell of what follows them.
-- Assumes nothing.
use Rattle.std.specs.List.{list_all}
use Rattle.std.proofs.Common.{ℕ, ◌≤◌, ◌<◌, ◌≡◌, true, ◌⊎◌, inl, inr, ⊎_elim, List, [], arith, length}
use Rattle.text.proofs.Orders.{le_or_lt}
use Rattle.words.specs.Texts.{is_text, is_input_name}
use Rattle.words.proofs.Refusals.{refusal_long}
use Rattle.words.proofs.WithinLength.{text_within, text_longer}
use Rattle.record.specs.Limits.{input_room, lamps_most, errors_count, error_most, is_class_number, only_in_2}
use Rattle.record.specs.Rules.{is_at_most, are_pairs, is_new_input, is_inputs, is_lamp, is_lamps, is_error_list}
use Rattle.record.specs.Rules.{are_names}

module _ (ds : List ℕ) (h : is_error_list ds ≡ true) where
  pub errors_long : length ds ≡ errors_count
  unfolding is_error_list
  errors_long = grind (arith, h)

  pub list_all-is_at_most : list_all (is_at_most error_most) ds ≡ true
  unfolding is_error_list
  list_all-is_at_most = grind (arith, h)

module _ (xs : List ℕ) (h : is_lamps xs ≡ true) where
  pub lamps_few : length xs ≤ lamps_most
  unfolding is_lamps
  lamps_few = grind (arith, h)

  pub lamps_within : list_all is_lamp xs ≡ true
  unfolding is_lamps
  lamps_within = grind (arith, h)

module _ (k : ℕ) (s : List ℕ) (h : is_inputs k s ≡ true) where
  -- there is such a class (RULES, Class 2)
  pub inputs_class : is_class_number k ≡ true
  unfolding is_inputs
  inputs_class = grind (arith, h)

  pub inputs_some : 2 ≤ length s
  unfolding is_inputs
  inputs_some = grind (arith, h)

  pub inputs_few : length s ≤ input_room
  unfolding is_inputs
  inputs_few = grind (arith, h)

  pub are_pairs-is_new_input : are_pairs (is_new_input k) s ≡ true
  unfolding is_inputs
  are_pairs-is_new_input = grind (arith, h)

-- one of two classes
pub class_one_of : (k : ℕ) → is_class_number k ≡ true → (k ≡ 1) ⊎ (k ≡ 2)
class_one_of k h = ⊎_elim (λ (l : k ≤ 1). inl (grind (arith, h))) (λ (l : 1 < k). inr (grind (arith, h))) (le_or_lt k 1)

pub only_in_2_within : (k n : ℕ) → only_in_2 k n ≤ n
only_in_2_within k n = grind arith

-- names of n inputs
module _ (n : ℕ) (ns : List (List ℕ)) where
  module _ (h : are_names n ns ≡ true) where
    pub names_many : length ns ≡ n
    unfolding are_names
    names_many = grind (arith, h)

    pub names_each : list_all is_input_name ns ≡ true
    unfolding are_names
    names_each = grind (arith, h)

  pub names_shown : length ns ≡ n → list_all is_input_name ns ≡ true → are_names n ns ≡ true
  unfolding are_names
  names_shown e f = grind (arith, e, f)

-- a text stays one where more bytes are allowed, and none is one
module _ (s : List ℕ) where
  pub text_most : (m : ℕ) → is_text m s ≡ true → length s ≤ m
  text_most m h = grind (arith, h, text_longer s m)

  pub text_wider : (m n : ℕ) → m ≤ n → is_text m s ≡ true → is_text n s ≡ true
  text_wider m n l h = grind (arith, h, text_most m h, text_within s n, text_within s m)

pub empty_text : (m : ℕ) → is_text m [] ≡ true
empty_text m = grind (arith, text_within [] m, refusal_long [])
