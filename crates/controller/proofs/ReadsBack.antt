-- What the reader takes from the reply to a command is what it says (RULES, Controller).
-- Assumes nothing.
use Rattle.std.proofs.Common.{ℕ, ◌≤◌, ◌≡◌, refl, ap, ◌∙◌, true, List, length}
use Rattle.words.specs.Bytes.{is_cr_free}
use Rattle.pjlink.specs.Forms.{reply_line}
use Rattle.pjlink.specs.Commands.{body_text, body_of, command_class, class_digit}
use Rattle.pjlink.specs.declared.command.Command.{Command}
use Rattle.pjlink.proofs.Bodies.{body_letters}
use Rattle.pjlink.proofs.RepliesReadBack.{ReplyShows, reply_shows, reply_form}
use Rattle.pjlink.specs.Bodies.{is_body}
use Rattle.pjlink.proofs.BodiesNamed.{body_named_lem}
use Rattle.pjlink.specs.Said.{Said, nothing, said_bytes}
use Rattle.pjlink.specs.Reading.{read_parameter}
use Rattle.pjlink.specs.CanSay.{CanSay}
use Rattle.pjlink.proofs.Nothing.{cannot_say_nothing}
use Rattle.pjlink.proofs.ReadsBack.{reads_back as parameter-reads-back}
use Rattle.controller.specs.Reading.{ReadAs, ReadingOutcome, means_it, meaning, saying, read_reply}
use Rattle.controller.proofs.Cases.{reply_said}

-- every answer that a command can have means something
pub can_mean : {c : Command} {m : Said} → CanSay c m → (saying m).outcome ≡ means_it
can_mean {m = nothing} can = absurd (cannot_say_nothing can)
can_mean {m = m} can = refl

-- the reply to a command, by what it says
module _ (c : Command) {m : Said} (can : CanSay c m) (short : length (said_bytes m) ≤ 128)
    (plain : is_cr_free (said_bytes m) ≡ true) where
  shows : ReplyShows (class_digit (command_class c)) (body_text (body_of c)) (said_bytes m)
  shows = reply_shows (body_letters (body_of c)) (class_digit (command_class c)) (said_bytes m) short plain

  pub reply_read : read_reply c (reply_line (class_digit (command_class c)) (body_text (body_of c)) (said_bytes m))
      ≡ meaning m
  reply_read =
      reply_said c _ shows.not_erra (reply_form (body_letters (body_of c)) (command_class c) (said_bytes m) short plain)
      (ap (λ (s : List ℕ). is_body (command_class c) s (body_of c)) shows.body ∙ (body_named_lem (body_of c)).own)
      ∙ ap (λ (p : List ℕ). saying (read_parameter c p)) shows.parameter
      ∙ ap saying (parameter-reads-back can)
      ∙ ap {B = ReadAs} (λ (o : ReadingOutcome). record { outcome = o; said = m }) (can_mean can)
