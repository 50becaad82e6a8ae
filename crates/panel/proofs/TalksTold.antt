-- What a legal talk tells, and how one is shown.
--   TalkTold t      the parts of is_talk
-- Assumes nothing.
use Rattle.std.proofs.Common.{◌≡◌, true, false, ◌&&◌, ◌||◌, arith, nat_le, ◌==◌, is_some}
use Rattle.text.specs.Flags.{is_flag, is_lowered, is_raised}
use Rattle.codes.specs.Commands.{coded_command}
use Rattle.codes.specs.declared.command.Coded.{Coded}
use Rattle.panel.specs.Entries.{Talk, talk_of, ungreeted, greeted_secured, is_secured_talk, sent_on, rested_on}
use Rattle.panel.specs.Awaited.{talk_begun}
use Rattle.panel.specs.LegalPanels.{is_command_kept, is_talk, is_entry}
use Rattle.panel.specs.declared.talk.Greeted.{Greeted}
use Rattle.panel.specs.declared.types.PanelEntry.{PanelEntry}
use Rattle.panel.proofs.PanelsTold.{entry_told}

pub record TalkTold (t : Talk) : Type 0 where
  pub greeting : nat_le t.greeting greeted_secured ≡ true
  pub secrets : (is_secured_talk t || (t.random == 0 && is_lowered t.led)) ≡ true
  pub flags : (is_flag t.led && is_flag t.under_way) ≡ true
  pub command : is_command_kept t ≡ true

module _ (t : Talk) where
  pub talk_told : is_talk t ≡ true → TalkTold t
  unfolding is_talk
  talk_told h = grind arith

  -- ending a command, and sending one
  pub is_talk-rested_on : is_talk t ≡ true → is_talk (rested_on t) ≡ true
  unfolding is_talk is_command_kept
  is_talk-rested_on h = let told = talk_told h in grind (arith, told.greeting, told.secrets, told.flags)

  pub is_talk-sent_on : is_talk t ≡ true → (k : Coded) → (t.greeting == ungreeted) ≡ false
      → is_some (coded_command k) ≡ true → is_talk (sent_on t k) ≡ true
  unfolding is_talk is_command_kept
  is_talk-sent_on h k greeted named = grind arith

pub begun_legal : (g : Greeted) → is_talk (talk_begun g) ≡ true
unfolding is_talk is_command_kept
begun_legal g = grind arith

-- what is under way in a legal entry is a command
pub is_some-coded_command : (e : PanelEntry) → is_entry e ≡ true → is_raised e.under_way ≡ true
    → is_some (coded_command e.command) ≡ true
unfolding is_command_kept
is_some-coded_command e legal waits =
    let told = talk_told (talk_of e) (entry_told e legal).talk in
    grind (arith, told.command, waits)
