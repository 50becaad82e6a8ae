-- THE LAW, the other way: what is read of a parameter was written there, and there is nothing that a parameter says
-- which is not read of it (RULES, Controller); so a parameter is refused exactly if it says nothing.
-- Assumes nothing.
use Rattle.std.proofs.Common.{ℕ, ◌≡◌, refl, sym, subst, ◌∙◌, Bool, true, false, List}
use Rattle.pjlink.specs.declared.command.Command.{Command}
use Rattle.pjlink.specs.Said.{Said, nothing}
use Rattle.pjlink.specs.CanSay.{CanSay}
use Rattle.pjlink.proofs.Nothing.{cannot_say_nothing}
use Rattle.pjlink.specs.Reading.{read_parameter}
use Rattle.pjlink.specs.Writings.{Says, IsAllowed, says, says_nothing}
use Rattle.pjlink.proofs.ReadsBack.{written_back}
use Rattle.pjlink.proofs.ReadSound.{CanRead, answer, no_answer, read_sound}

module _ (c : Command) (p : List ℕ) where
  pub read_was_written : (read_parameter c p ≡ nothing → ⊥) → Says c (read_parameter c p) p
  read_was_written some = by (read_sound c p) some
    where
      by : {m : Said} → CanRead c p m → (m ≡ nothing → ⊥) → Says c m p
      by (answer said) some = said
      by no_answer some = absurd (some refl)

  pub written_is_read : (m : Said) → Says c m p → read_parameter c p ≡ m
  written_is_read m said = written_back said.can p said.written

  pub one_meaning : {m n : Said} → Says c m p → Says c n p → m ≡ n
  one_meaning {m} {n} said told = sym (written_is_read m said) ∙ written_is_read n told

  something_said : {m : Said} → Says c m p → m ≡ nothing → ⊥
  something_said said e = cannot_say_nothing (subst (CanSay c) e said.can)

  -- whether the parameter is allowed is whether something is read of it
  pub not_allowed_says_nothing : IsAllowed c p false → read_parameter c p ≡ nothing
  not_allowed_says_nothing (says_nothing none) = by (read_sound c p)
    where
      by : {m : Said} → CanRead c p m → m ≡ nothing
      by {m} (answer said) = absurd (none m said)
      by no_answer = refl

  pub allowed_says_something : IsAllowed c p true → read_parameter c p ≡ nothing → ⊥
  allowed_says_something (says m said) e = something_said said (sym (written_is_read m said) ∙ e)

  pub allowed_or_not : (t : Bool) × IsAllowed c p t
  allowed_or_not = by (read_sound c p) refl
    where
      by : {m : Said} → CanRead c p m → read_parameter c p ≡ m → (t : Bool) × IsAllowed c p t
      by {m} (answer said) e = (true, says m said)
      by no_answer e = (false, says_nothing (λ m said. something_said said (sym (written_is_read m said) ∙ e)))
