-- A refusal writes nothing and means nothing; and the numbers, each the first row of the table that applies (RULES, The
-- numbers a call gives).
-- Assumes nothing.
use Rattle.std.proofs.Common.{arith, ℕ, ◌≡◌, refl, ap, Bool, not, List, [], nat_lt, lt-ltb, le-ltb, if◌then◌else◌}
use Rattle.text.proofs.Choices.{if_yes, if_no}
use Rattle.pjlink.specs.Forms.{erra_line}
use Rattle.pjlink.specs.declared.command.Command.{Command}
use Rattle.pjlink.specs.Said.{Said, nothing}
use Rattle.text.specs.Outcomes.{call_number}
use Rattle.controller.specs.Writing.{command_room, is_writable, written_command, unwritten_number}
use Rattle.controller.specs.Reading.{reading_outcome_number, outcome_alone, saying, read_reply, means_it, erra_said}
use Rattle.controller.proofs.Cases.{written_by, reply_by, reply_erra}

module _ (c : Command) (secured : Bool) (random : ℕ) (password : List ℕ) (room : ℕ) where
  pub written_number : call_number unwritten_number (written_command c secured random password room)
      ≡ (if nat_lt room command_room then 2 else if not (is_writable c secured password) then 3 else 0)
  unfolding written_command
  written_number = grind (arith, if_yes, lt-ltb, if_no, le-ltb)

  pub refusal_writes_nothing : (call_number unwritten_number (written_command c secured random password room) ≡ 0 → ⊥)
      → (written_command c secured random password room).bytes ≡ []
  refusal_writes_nothing =
      written_by c secured random password room (λ w. (call_number unwritten_number w ≡ 0 → ⊥) → w.bytes ≡ [])
      (λ h n. refl) (λ h w n. refl) (λ h w n. absurd (n refl))

module _ (c : Command) where
  unsaid : (m : Said) → ((saying m).outcome ≡ means_it → ⊥) → m ≡ nothing
  unsaid m h = grind arith

  pub refusal_means_nothing : (l : List ℕ) → ((read_reply c l).outcome ≡ means_it → ⊥) → (read_reply c l).said ≡ nothing
  refusal_means_nothing l =
      reply_by c l (λ r. (r.outcome ≡ means_it → ⊥) → r.said ≡ nothing) (λ e n. refl) (λ e f n. refl) (λ f b n. refl)
      (λ f b. unsaid _)

  -- by the number
  pub number_means_nothing : (l : List ℕ) → (reading_outcome_number (read_reply c l).outcome ≡ 0 → ⊥)
      → (read_reply c l).said ≡ nothing
  number_means_nothing l n = refusal_means_nothing l (λ e. n (ap reading_outcome_number e))

  -- the ERRA line is read as such, whatever was asked
  pub erra_read : read_reply c erra_line ≡ outcome_alone erra_said
  erra_read = reply_erra c erra_line refl
