-- The projector's half of demand 2's reading back: on a legal record between lines, for every command that can be
-- written, its line is taken whole, the reply says what the command means, and the record is what the command does to
-- it. On an open connection, and on an awaiting one behind the matching digest, which is open afterwards. So for
-- any command of a class no higher than the set-up's; a higher one is taken and swallowed (RULES, Class 2).
--   reply_to k m                 the reply that says m to the command k
--   command_result d p k n       the result of receiving it at place p where n bytes are taken
--   swallowed_at d p n           the same of a command of a higher class: no reply, the connection open between lines
-- Assumes nothing.
use Rattle.std.proofs.Common.{ℕ, ◌+◌, ◌≤◌, ◌<◌, ◌≡◌, sym, ap, ◌∙◌, true, false, List, [], ◌∷◌, ◌++◌, append_assoc}
use Rattle.std.proofs.Common.{arith, length, length-append, codes, Ok}
use Rattle.digest.specs.Hex.{leading_digest}
use Rattle.digest.proofs.Laws.{length-leading_digest}
use Rattle.pjlink.specs.Commands.{body_text, body_of, command_class, class_digit, is_command, command_text}
use Rattle.pjlink.specs.Commands.{command_line}
use Rattle.pjlink.specs.declared.command.Command.{Command}
use Rattle.pjlink.proofs.CommandLines.{command_length, command_no_cr}
use Rattle.pjlink.specs.Said.{Said, said_bytes}
use Rattle.text.specs.Flags.{is_raised}
use Rattle.text.specs.Outcomes.{CallResult, served_as}
use Rattle.record.specs.Limits.{places_count, phase_awaiting, phase_open}
use Rattle.record.specs.Legal.{is_legal}
use Rattle.record.specs.Places.{connection_at, with_place}
use Rattle.record.specs.declared.refusal.Refusal.{Refusal}
use Rattle.record.specs.declared.types.Connection.{Connection}
use Rattle.record.specs.declared.types.Device.{Device}
use Rattle.record.proofs.LegalTold.{legal_settings, legal_connection}
use Rattle.record.proofs.ConnectionTold.{age_untimed}
use Rattle.record.proofs.FactsTold.{connection_is}
use Rattle.stream.specs.Collecting.{empty_line}
use Rattle.meaning.specs.Meaning.{answer_for, after_request}
use Rattle.device.specs.Answering.{Answered, line_answer}
use Rattle.device.specs.Receiving.{phase_start, digest_long, set_up_password}
use Rattle.device.specs.Calls.{reply_room, received_at}
use Rattle.device.proofs.LinesReceived.{line_result, line_received, led_line_received}
use Rattle.device.proofs.WholeLines.{command_answered, higher_swallowed}

abbrev pub reply_to : Command → Said → List ℕ
reply_to k m =
    codes "%" ++ (class_digit (command_class k) ∷ body_text (body_of k)) ++ codes "=" ++ said_bytes m ++ codes "\r"

abbrev pub command_result : Device → ℕ → Command → ℕ → CallResult Refusal ℕ Device
command_result d p k n =
    served_as n (reply_to k (answer_for d.settings d.own (Ok k)))
    (with_place d (after_request d.settings d.own (Ok k)) p (phase_start (connection_at d p) phase_open))

abbrev pub swallowed_at : Device → ℕ → ℕ → CallResult Refusal ℕ Device
swallowed_at d p n = served_as n [] (with_place d d.own p (phase_start (connection_at d p) phase_open))

-- an open connection between lines stays as it was
pub open_again : (d : Device) (p : ℕ) → p < places_count → is_legal d ≡ true → (connection_at d p).phase ≡ phase_open
    → (connection_at d p).line ≡ empty_line → phase_start (connection_at d p) phase_open ≡ connection_at d p
open_again d p there legal phase empty =
    search (arith, age_untimed, connection_is, legal_connection, legal_connection d legal p there)

module _ (d : Device) (p : ℕ) (there : p < places_count) (room : ℕ) (legal : is_legal d ≡ true)
    (enough : reply_room ≤ room) (unmarked : is_raised (connection_at d p).line.overlong ≡ false)
    (none : (connection_at d p).line.held ≡ 0) (k : Command) where
  abbrev c : Connection
  c = connection_at d p

  -- its line is taken whole, whatever it is answered
  abbrev spoken_after : ℕ → Answered → CallResult Refusal ℕ Device
  spoken_after n a = line_result d p a n

  abbrev answered : Answered
  answered = line_answer d.settings d.own (command_text k)

  abbrev pub digest : List ℕ
  digest = leading_digest c.random (set_up_password d.settings)

  command_line_received : c.phase ≡ phase_open
      → received_at d p (command_line k) room ≡ spoken_after (length (command_line k)) answered
  command_line_received phase =
      line_received d p there room legal enough unmarked none (command_text k) (command_no_cr k) phase
      (omega (arith, command_length k))
      ∙ ap (λ (n : ℕ). spoken_after n answered) (sym (length-append (command_text k) (codes "\r")))

  led_received : c.phase ≡ phase_awaiting
      → received_at d p (digest ++ command_line k) room ≡ spoken_after (length (digest ++ command_line k)) answered
  led_received phase =
      let count : digest_long + length (command_text k) + 1 ≡ length (digest ++ command_line k)
      = omega (
        arith,
        length-append digest (command_line k),
        length-append (command_text k) (codes "\r"),
        length-leading_digest c.random (set_up_password d.settings),
      ) in
      ap (λ (bs : List ℕ). received_at d p bs room) (sym (append_assoc digest (command_text k) (codes "\r")))
      ∙ led_line_received d p there room legal enough unmarked none (command_text k) (command_no_cr k) phase
      (omega (arith, command_length k))
      ∙ ap (λ (n : ℕ). spoken_after n answered) count

  module _ (writable : is_command k ≡ true) (within : command_class k ≤ d.settings.class_number) where
    answers : (n : ℕ) → spoken_after n answered ≡ command_result d p k n
    answers n = grind (arith, command_answered, legal_settings)

    pub command_received : c.phase ≡ phase_open
        → received_at d p (command_line k) room ≡ command_result d p k (length (command_line k))
    command_received phase = command_line_received phase ∙ answers (length (command_line k))

    pub command_received_secured : c.phase ≡ phase_awaiting
        → received_at d p (digest ++ command_line k) room ≡ command_result d p k (length (digest ++ command_line k))
    command_received_secured phase = led_received phase ∙ answers (length (digest ++ command_line k))

  -- of a class higher than the set-up's
  module _ (higher : d.settings.class_number < command_class k) where
    swallows : (n : ℕ) → spoken_after n answered ≡ swallowed_at d p n
    swallows n = ap (spoken_after n) (higher_swallowed d.settings d.own (legal_settings d legal) k higher)

    pub higher_received : c.phase ≡ phase_open
        → received_at d p (command_line k) room ≡ swallowed_at d p (length (command_line k))
    higher_received phase = command_line_received phase ∙ swallows (length (command_line k))

    pub higher_received_secured : c.phase ≡ phase_awaiting
        → received_at d p (digest ++ command_line k) room ≡ swallowed_at d p (length (digest ++ command_line k))
    higher_received_secured phase = led_received phase ∙ swallows (length (digest ++ command_line k))
