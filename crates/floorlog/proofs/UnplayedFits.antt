-- The words for what is not played fit their room.
-- Assumes nothing.
use Rattle.std.proofs.Common.{ℕ, ◌≤◌, ◌≡◌, ap, ◌∙◌, List, ◌++◌, arith, length, length-append, append_assoc}
use Rattle.text.proofs.Choices.{if_all}
use Rattle.numbers.proofs.Digits.{digits_at_most_10, long_at_most_20}
use Rattle.reasons.specs.Reasons.{number_text}

pub number_text_short : (n : ℕ) → length (number_text n) ≤ 60
number_text_short n = grind (arith, if_all)

pub ruleset words_lengths =
    (digits_at_most_10, long_at_most_20, number_text_short, length-append)

-- what is put behind a text that is put behind another
pub put_after : {x y : List ℕ} (old a r : List ℕ) → x ≡ old ++ a → y ≡ x ++ r → y ≡ old ++ (a ++ r)
put_after old a r e h = h ∙ ap (λ (z : List ℕ). z ++ r) e ∙ append_assoc old a r
