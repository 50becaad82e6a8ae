-- The answer and what is done, by the rules: which rule decides, and what holds of both because it holds in every case.
--   Passes s o r      no rule refuses the request
-- Assumes nothing.
use Rattle.std.proofs.Common.{arith, ℕ, ◌≡◌, ◌∙◌, Bool, true, false, ◌||◌, if◌then◌else◌}
use Rattle.text.proofs.Choices.{if_yes, if_no}
use Rattle.pjlink.specs.Requests.{Request}
use Rattle.pjlink.specs.Said.{Said, refused}
use Rattle.record.specs.declared.types.Settings.{Settings}
use Rattle.record.specs.declared.types.Own.{Own}
use Rattle.meaning.specs.Rules.{is_undefined, is_out_of_parameter, is_failure, is_unavailable}
use Rattle.meaning.specs.Meaning.{request_answer, carried_out, answer_for, after_request}

-- the first of four tests decides
first_of : {A B : Type 0} (P : A → B → Type 0) (a b c d : Bool) {w x y z t : A} {k m : B}
    → (a ≡ true → P w k) → (a ≡ false → b ≡ true → P x k) → (a ≡ false → b ≡ false → c ≡ true → P y k)
    → (a ≡ false → b ≡ false → c ≡ false → d ≡ true → P z k)
    → (a ≡ false → b ≡ false → c ≡ false → d ≡ false → P t m)
    → P (if a then w else if b then x else if c then y else if d then z else t) (if a || b || c || d then k else m)
first_of P a b c d h g e f p = grind arith

module _ (s : Settings) (o : Own) (r : Request) where
  pub record Passes : Type 0 where
    pub defined : is_undefined s r ≡ false
    pub listed : is_out_of_parameter s r ≡ false
    pub sound : is_failure o r ≡ false
    pub timely : is_unavailable o r ≡ false

  pub decided_by : (P : Said → Own → Type 0)
      → (is_undefined s r ≡ true → P (refused 1) o)
      → (is_undefined s r ≡ false → is_out_of_parameter s r ≡ true → P (refused 2) o)
      → (is_undefined s r ≡ false → is_out_of_parameter s r ≡ false → is_failure o r ≡ true → P (refused 4) o)
      → (is_undefined s r ≡ false → is_out_of_parameter s r ≡ false → is_failure o r ≡ false → is_unavailable o r ≡ true
      → P (refused 3) o)
      → (Passes → P (request_answer s o r) (carried_out s o r))
      → P (answer_for s o r) (after_request s o r)
  unfolding answer_for after_request
  decided_by P p q u v n = grind arith

  pub meant_by : (P : Said → Type 0)
      → (is_undefined s r ≡ true → P (refused 1))
      → (is_undefined s r ≡ false → is_out_of_parameter s r ≡ true → P (refused 2))
      → (is_undefined s r ≡ false → is_out_of_parameter s r ≡ false → is_failure o r ≡ true → P (refused 4))
      → (is_undefined s r ≡ false → is_out_of_parameter s r ≡ false → is_failure o r ≡ false → is_unavailable o r ≡ true
      → P (refused 3))
      → (Passes → P (request_answer s o r))
      → P (answer_for s o r)
  meant_by P = decided_by (λ m k. P m)

  -- either some rule refuses and nothing is done, or none does
  pub refused_or_passed : (P : Said → Own → Type 0) → ((n : ℕ) → P (refused n) o)
      → (Passes → P (request_answer s o r) (carried_out s o r)) → P (answer_for s o r) (after_request s o r)
  refused_or_passed P refuses =
      decided_by P (λ a. refuses 1) (λ a b. refuses 2) (λ a b c. refuses 4) (λ a b c d. refuses 3)

  pub done_by : (P : Own → Type 0) → P o → (Passes → P (carried_out s o r)) → P (after_request s o r)
  done_by P kept = refused_or_passed (λ m k. P k) (λ n. kept)

  -- what is meant, where the rules are known
  module _ (a : is_undefined s r ≡ true) where
    pub err1 : answer_for s o r ≡ refused 1
    unfolding answer_for
    err1 = if_yes _ _ a

  module _ (a : is_undefined s r ≡ false) (b : is_out_of_parameter s r ≡ true) where
    pub err2 : answer_for s o r ≡ refused 2
    unfolding answer_for
    err2 = if_no _ _ a ∙ if_yes _ _ b

  module _ (a : is_undefined s r ≡ false) (b : is_out_of_parameter s r ≡ false) (c : is_failure o r ≡ true) where
    pub err4 : answer_for s o r ≡ refused 4
    unfolding answer_for
    err4 = if_no _ _ a ∙ if_no _ _ b ∙ if_yes _ _ c

  module _ (a : is_undefined s r ≡ false) (b : is_out_of_parameter s r ≡ false) (c : is_failure o r ≡ false)
      (d : is_unavailable o r ≡ true) where
    pub err3 : answer_for s o r ≡ refused 3
    unfolding answer_for
    err3 = if_no _ _ a ∙ if_no _ _ b ∙ if_no _ _ c ∙ if_yes _ _ d

  module _ (p : Passes) where
    pub meant_passed : answer_for s o r ≡ request_answer s o r
    unfolding answer_for
    meant_passed = if_no _ _ p.defined ∙ if_no _ _ p.listed ∙ if_no _ _ p.sound ∙ if_no _ _ p.timely

    pub done_passed : after_request s o r ≡ carried_out s o r
    unfolding after_request
    done_passed = if_no o (carried_out s o r) (λ j. p.defined j || p.listed j || p.sound j || p.timely j)

pub ruleset first_rule = (err1, err2, err4, err3, meant_passed, done_passed)
