-- The examples that RULES gives of inputs, and the same inputs and more of Class 2 (RULES, Inputs and Class 2).
-- Assumes nothing.
use Rattle.std.proofs.Common.{◌≡◌, refl, true, false, List, [], ◌∷◌, map, ℕ, codes, Some, None}
use Rattle.words.specs.Bytes.{◌at◌}
use Rattle.words.specs.Sources.{number_for, input_for}
use Rattle.words.specs.Inputs.{is_input_text}
use Rattle.words.specs.declared.input.Source.TheVariants.{Rgb, Digital, Network, Internal}

-- "So 11 and 59 are legal; 10, 20 and 61 are not"
pub inputs : map (λ (s : List ℕ). is_input_text 1 (s at 0) (s at 1))
    (codes "11" ∷ codes "59" ∷ codes "10" ∷ codes "20" ∷ codes "61" ∷ [])
    ≡ true ∷ true ∷ false ∷ false ∷ false ∷ []
inputs = refl

-- of Class 2 61 is, and 1A; a small letter, 1: and 71 are not
pub inputs_2 : map (λ (s : List ℕ). is_input_text 2 (s at 0) (s at 1))
    (codes "11" ∷ codes "61" ∷ codes "1A" ∷ codes "6Z" ∷ codes "10" ∷ codes "1a" ∷ codes "1:" ∷ codes "71" ∷ [])
    ≡ true ∷ true ∷ true ∷ true ∷ false ∷ false ∷ false ∷ false ∷ []
inputs_2 = refl

-- 11 is RGB 1, 59 NETWORK 9, 61 INTERNAL 1 and 3B DIGITAL 11
pub stand : map (λ (s : List ℕ). input_for (s at 0) (s at 1))
    (codes "11" ∷ codes "59" ∷ codes "10" ∷ codes "20" ∷ codes "61" ∷ codes "3B" ∷ [])
    ≡ Some (record { source = Rgb; number = 1 }) ∷ Some (record { source = Network; number = 9 }) ∷ None
    ∷ None ∷ Some (record { source = Internal; number = 1 })
    ∷ Some (record { source = Digital; number = 11 }) ∷ []
unfolding input_for number_for
stand = refl

pub ruleset worked_inputs = (inputs, inputs_2, stand)
