-- What legal settings tell, and how they are shown (the crates above never open `is_settings`).
-- Assumes nothing.
use Rattle.std.proofs.Common.{ℕ, ◌+◌, ◌*◌, ◌≤◌, ◌<◌, ◌≡◌, sym, ◌∙◌, true, List, arith, length, take, get_or-take}
use Rattle.words.specs.Bytes.{◌at◌}
use Rattle.words.specs.Texts.{is_info, password_most}
use Rattle.words.specs.Inputs.{is_input_text}
use Rattle.words.proofs.InputsReadBack.{named_widely}
use Rattle.record.specs.Limits.{input_room, listed_most, is_class_number}
use Rattle.record.specs.Rules.{is_inputs}
use Rattle.record.specs.declared.types.Text.{Text}
use Rattle.record.specs.declared.types.Settings.{Settings}
use Rattle.words.proofs.TextsTold.{password_long}
use Rattle.record.specs.Facts.{IsSettings}
use Rattle.record.proofs.Kept.{kept_length}
use Rattle.record.proofs.Rules.{inputs_class, inputs_some, text_wider}
use Rattle.record.proofs.InputsTold.{input_named, inputs_differ}

-- the bytes of a text
abbrev pub bytes_of : Text → List ℕ
bytes_of t = take t.len t.bytes

-- from the settings: the password, the number of inputs, each input
module _ (s : Settings) (t : IsSettings s) where
  pub password_within : s.password.len ≤ password_most
  password_within = search (arith, kept_length, password_long)

  listed : length (take (2 * s.input_count) s.inputs) ≡ 2 * s.input_count
  listed = kept_length input_room (is_inputs s.class_number) _ _ t.inputs

  pub input_count_low : 1 ≤ s.input_count
  input_count_low = omega (arith, listed, inputs_some _ _ t.inputs.follows)

  pub input_count_high : s.input_count ≤ listed_most
  input_count_high = omega (arith, t.inputs.inside)

  -- the bytes that are used are the array's
  used : (i : ℕ) → i < 2 * s.input_count → take (2 * s.input_count) s.inputs at i ≡ s.inputs at i
  used i l = get_or-take (2 * s.input_count) s.inputs i 0 l

  -- the class, and each input: one of the class, and so one of either
  pub class_told : is_class_number s.class_number ≡ true
  class_told = inputs_class _ _ t.inputs.follows

  pub input_of_class : (k : ℕ) → k < s.input_count
      → is_input_text s.class_number (s.inputs at (2 * k)) (s.inputs at (2 * k + 1)) ≡ true
  input_of_class k l =
      (λ j. is_input_text s.class_number (sym (used (2 * k) (omega arith)) j)
      (sym (used (2 * k + 1) (omega arith)) j))
      ∙ input_named s.class_number (take (2 * s.input_count) s.inputs) t.inputs.follows k
      (omega (arith, listed))

  pub input_at : (k : ℕ) → k < s.input_count → is_input_text 2 (s.inputs at (2 * k)) (s.inputs at (2 * k + 1)) ≡ true
  input_at k l = search (arith, named_widely, input_of_class)

  -- what Class 2 alone has follows its rule in either class, since nothing does
  pub serial_told : is_info (bytes_of s.serial) ≡ true
  serial_told = grind (arith, text_wider)

  pub version_told : is_info (bytes_of s.version) ≡ true
  version_told = grind (arith, text_wider)

  pub inputs_apart : (j k : ℕ) → j < k → k < s.input_count → s.inputs at (2 * k) ≡ s.inputs at (2 * j)
      → s.inputs at (2 * k + 1) ≡ s.inputs at (2 * j + 1) → ⊥
  inputs_apart j k l m e f =
      inputs_differ s.class_number (take (2 * s.input_count) s.inputs) t.inputs.follows j k l
      (omega (arith, listed))
      (used (2 * k) (omega arith) ∙ e ∙ sym (used (2 * j) (omega arith)))
      (used (2 * k + 1) (omega arith) ∙ f ∙ sym (used (2 * j + 1) (omega arith)))
