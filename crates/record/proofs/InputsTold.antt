-- What a list of inputs tells, place by place: each pair names an input, and no two pairs are the same.
-- Assumes nothing.
use Rattle.std.proofs.Common.{ℕ, ◌+◌, ◌*◌, ◌-◌, ◌<◌, ◌≡◌, sym, ap, ◌∙◌, Bool, true, not, ◌&&◌, List, arith, length}
use Rattle.std.proofs.Common.{drop, length-drop, get_or-drop, ◌==◌}
use Rattle.words.specs.Bytes.{◌at◌}
use Rattle.words.specs.Inputs.{is_input_text}
use Rattle.record.specs.Rules.{is_other, is_none, is_new_input, is_inputs}
use Rattle.record.proofs.Rules.{are_pairs-is_new_input}
use Rattle.record.proofs.Places.{pair_at}

module _ (c : ℕ) (s : List ℕ) (h : is_inputs c s ≡ true) where
  abbrev none_later : ℕ → Bool
  none_later k = is_none (s at (2 * k)) (s at (2 * k + 1)) (drop (2 * k + 2) s)

  is_new_input-drop : (k : ℕ) → 2 * k + 1 < length s →
      is_new_input c (s at (2 * k)) (s at (2 * k + 1)) (drop (2 * k + 2) s) ≡ true
  is_new_input-drop k l = pair_at (is_new_input c) s (are_pairs-is_new_input c s h) k l

  pub input_named : (k : ℕ) → 2 * k + 1 < length s → is_input_text c (s at (2 * k)) (s at (2 * k + 1)) ≡ true
  input_named k l = grind (arith, is_new_input-drop k l)

  module _ (j k : ℕ) (first : j < k) (l : 2 * k + 1 < length s) where
    abbrev place : ℕ
    place = k - j - 1

    none : none_later j ≡ true
    none = grind (arith, is_new_input-drop j (omega arith))

    other : not ((s at (2 * k)) == (s at (2 * j)) && (s at (2 * k + 1)) == (s at (2 * j + 1))) ≡ true
    unfolding is_none
    other =
        let n = 2 * j + 2 in
        let at_first : drop n s at (2 * place) ≡ s at (2 * k)
        = get_or-drop n s (2 * place) 0 ∙ ap (λ (i : ℕ). s at i) (omega arith) in
        let at_second : drop n s at (2 * place + 1) ≡ s at (2 * k + 1)
        = get_or-drop n s (2 * place + 1) 0 ∙ ap (λ (i : ℕ). s at i) (omega arith) in
        (λ i. not (sym at_first i == (s at (2 * j)) && sym at_second i == (s at (2 * j + 1))))
        ∙ pair_at (λ x y later. is_other (s at (2 * j)) (s at (2 * j + 1)) x y) (drop n s) none place
        (omega (arith, length-drop n s))

    pub inputs_differ : s at (2 * k) ≡ s at (2 * j) → s at (2 * k + 1) ≡ s at (2 * j + 1) → ⊥
    inputs_differ e f = grind (arith, other, e, f)
