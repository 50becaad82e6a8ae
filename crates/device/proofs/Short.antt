-- No reply is longer than 136 bytes (RULES, Class 2): eight around a parameter of at most 128, 12 for the refused
-- digest, at most 18 for a greeting.
-- Assumes nothing.
use Rattle.std.proofs.Common.{ℕ, ◌≤◌, ◌≡◌, true, List, arith, length, length-append}
use Rattle.text.proofs.Choices.{if_all}
use Rattle.digest.proofs.Laws.{length-hex_digits}
use Rattle.record.specs.Legal.{is_settings, is_own}
use Rattle.record.specs.Places.{connection_at}
use Rattle.record.specs.declared.types.Settings.{Settings}
use Rattle.record.specs.declared.types.Own.{Own}
use Rattle.record.specs.declared.types.CollectedLine.{CollectedLine}
use Rattle.record.specs.declared.types.Connection.{Connection}
use Rattle.record.specs.declared.types.Device.{Device}
use Rattle.record.proofs.LegalTold.{legal_settings, legal_own}
use Rattle.meaning.proofs.CanBeSaid.{meant_fits}
use Rattle.device.specs.Answering.{line_answer}
use Rattle.device.specs.Receiving.{line_ended, taken_in}
use Rattle.device.specs.Calls.{longest_reply, greeting, received_at, opened_by}
use Rattle.device.proofs.Cases.{received_by, opened_by_lem}
use Rattle.device.proofs.LineCases.{ended_by, taken_by}

abbrev pub longest_greeting : ℕ
longest_greeting = 18

module _ (s : Settings) (o : Own) (settings : is_settings s ≡ true) (own : is_own s o ≡ true) where
  pub answered_short : (l : List ℕ) → length (line_answer s o l).reply ≤ longest_reply
  unfolding line_answer
  answered_short l = grind (arith, meant_fits, if_all, length-append)

  module _ (c : Connection) where
    pub ended_short : (l : CollectedLine) → length (line_ended s o c l).reply ≤ longest_reply
    ended_short l =
        ended_by s o c l (λ e. length e.reply ≤ longest_reply) (λ p m. omega arith) (λ p m. answered_short _)
        (λ p m. answered_short _) (λ p m. omega arith) (λ p q. omega arith)

    pub taken_short : (bs : List ℕ) → length (taken_in s o c bs).ended.reply ≤ longest_reply
    taken_short bs =
        taken_by s o c bs (λ t. length t.ended.reply ≤ longest_reply) (λ e. ended_short _) (λ e. omega arith)

pub greeting_short : (s : Settings) (r : ℕ) → length (greeting s r) ≤ longest_greeting
unfolding greeting
greeting_short s r = grind (arith, if_all, length-append, length-hex_digits)

module _ (d : Device) where
  -- on any input, refused or not
  pub receiving_short : (p : ℕ) (bs : List ℕ) (room : ℕ) → length (received_at d p bs room).bytes ≤ longest_reply
  receiving_short p bs room =
      received_by d p bs room (λ r. length r.bytes ≤ longest_reply) (λ e some. omega arith)
      (λ h s t c. taken_short d.settings d.own (legal_settings d h) (legal_own d h) (connection_at d p) bs)

  pub opening_short : (r room : ℕ) → length (opened_by d r room).bytes ≤ longest_greeting
  opening_short r room =
      opened_by_lem d r room (λ q. length q.bytes ≤ longest_greeting) (λ e some. omega arith)
      (λ h s c. greeting_short d.settings r)
