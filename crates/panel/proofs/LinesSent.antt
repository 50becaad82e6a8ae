-- What a legal entry sends of a command is the command's line, led by the digest of its random number and its password
-- where it is the first after a secured greeting.
-- Assumes nothing.
use Rattle.std.proofs.Common.{arith, ℕ, ◌≤◌, ◌≡◌, refl, Bool, true, false, not, ◌||◌, List, ◌++◌, Some}
use Rattle.text.proofs.Choices.{both}
use Rattle.digest.specs.Hex.{leading_digest}
use Rattle.pjlink.specs.Commands.{is_command, command_line}
use Rattle.pjlink.specs.declared.command.Command.{Command}
use Rattle.controller.specs.Writing.{command_room, is_writable, led_by, written_command}
use Rattle.controller.proofs.Cases.{written_line}
use Rattle.codes.specs.Commands.{coded_command}
use Rattle.codes.specs.declared.command.Coded.{Coded}
use Rattle.codes.proofs.CodesBack.{command_writable}
use Rattle.panel.specs.Entries.{talk_of, password_in, leads_next}
use Rattle.panel.specs.Stepping.{command_sent}
use Rattle.panel.specs.LegalPanels.{is_entry}
use Rattle.panel.specs.declared.types.PanelEntry.{PanelEntry}
use Rattle.panel.proofs.PanelsTold.{is_password-password_in, few_projectors, is_entry-slice_index_or, fits_there}

word_taken : (led : Bool) {word : Bool} → word ≡ true → (not led || word) ≡ true
word_taken led h = grind arith

module _ (e : PanelEntry) where
  -- what the controller's writer gives
  pub sent_written : (c : Command) (room : ℕ) → command_sent e c room
      ≡ (written_command c (leads_next (talk_of e)) e.random (password_in e) room).bytes
  unfolding command_sent
  sent_written c room = refl

  pub line_sent_whole : (c : Command) (room : ℕ) → is_entry e ≡ true → is_command c ≡ true → command_room ≤ room
      → command_sent e c room ≡ led_by (leads_next (talk_of e)) e.random (password_in e) ++ command_line c
  line_sent_whole c room legal writable enough =
      grind (arith, sent_written, written_line, both, word_taken, is_password-password_in)

  module _ (legal : is_entry e ≡ true) (k : Coded) (c : Command) (named : coded_command k ≡ Some c) (room : ℕ)
      (enough : command_room ≤ room) where
    sent_by : {led : Bool} → leads_next (talk_of e) ≡ led
        → command_sent e c room ≡ led_by led e.random (password_in e) ++ command_line c
    sent_by led = grind (arith, line_sent_whole, command_writable)

    pub sent_led : leads_next (talk_of e) ≡ true
        → command_sent e c room ≡ leading_digest e.random (password_in e) ++ command_line c
    sent_led leads = sent_by leads

    pub sent_plain : leads_next (talk_of e) ≡ false → command_sent e c room ≡ command_line c
    sent_plain plain = sent_by plain

-- in the code's words: what is written is what is sent, and may be written
pub sent_whole : (e : PanelEntry) (c : Command) (room : ℕ) (led : Bool) (password : List ℕ) → is_entry e ≡ true
    → is_command c ≡ true → command_room ≤ room → led ≡ leads_next (talk_of e) → password ≡ password_in e
    → led_by led e.random password ++ command_line c ≡ command_sent e c room
sent_whole e c room led password legal writable enough same word = grind (arith, line_sent_whole, same, word)

pub password_writable : (e : PanelEntry) (c : Command) (led : Bool) (password : List ℕ) → is_entry e ≡ true
    → is_command c ≡ true → password ≡ password_in e → is_writable c led password ≡ true
password_writable e c led password legal writable word =
    grind (arith, both, word_taken, is_password-password_in, word)

-- of the entry that a command goes to
pub ruleset entry_sends = (few_projectors, is_entry-slice_index_or, fits_there, command_writable)
