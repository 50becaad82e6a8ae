use Rattle.std.proofs.Common.{arith, ◌∙◌, ◌≡◌, List, ℕ, Result, MatchResult, IsUtf8, is_ok}
use Rattle.std.specs.Str.{is_utf8}
use Rattle.std.proofs.lemmas.Str.{IsUtf8-from_is_utf8, is_utf8-from_IsUtf8}
use Rattle.words.proofs.texts.is_utf8.Goals as goal

-- what is text and what is not, as a test
is_ok-from_utf8 : {A E : Type 0} (P : A → Type 0) (Q : E → Type 0) (s : List ℕ) (r : Result A E)
    → MatchResult r (λ a. P a × IsUtf8 s) (λ e. ¬ (IsUtf8 s) × Q e) → is_ok r ≡ is_utf8 s
is_ok-from_utf8 P Q s r h = grind (arith, is_utf8-from_IsUtf8, IsUtf8-from_is_utf8)

pub returns : goal.returns
returns c = c.is_ok.ensures.value ∙ is_ok-from_utf8 _ _ _ c.from_utf8.result c.from_utf8.ensures.cases
