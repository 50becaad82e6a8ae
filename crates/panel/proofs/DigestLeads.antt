-- THE DIGEST leads the first command after a secured greeting, and no other: whatever is asked for, whatever lines
-- come, of the commands that are sent until a new greeting is awaited. After an open greeting it leads none.
--   LedFrom b bs      the digest leads the first of these, where b says that it leads next, and no other
-- Assumes nothing.
use Rattle.std.proofs.Common.{arith, ℕ, ◌≡◌, refl, Bool, true, false, not, List, [], ◌∷◌, ◌++◌, ◌⊎◌, inr, eq-eqb}
use Rattle.std.proofs.Common.{if◌then◌else◌, Option}
use Rattle.std.specs.List.{list_all}
use Rattle.std.proofs.lemmas.Bool.{eqb-false}
use Rattle.text.proofs.Choices.{if_yes}
use Rattle.pjlink.specs.declared.command.Command.{Command}
use Rattle.codes.specs.Commands.{coded_command}
use Rattle.codes.specs.declared.command.Coded.{Coded}
use Rattle.panel.specs.Entries.{Talk, talk_of, ungreeted, greeted_open, greeted_secured, leads_next, greeted_by}
use Rattle.panel.specs.Entries.{sent_on}
use Rattle.panel.specs.Stepping.{with_talk, replied_to, heard_line}
use Rattle.panel.specs.Talks.{Happens, is_sent, after_it, led_in_talk, is_first_led}
use Rattle.panel.specs.declared.types.PanelEntry.{PanelEntry}
use Rattle.panel.proofs.StepsByTable.{step_by}

abbrev pub LedFrom : Bool → List Bool → Type 0
LedFrom true bs = is_first_led bs ≡ true
LedFrom false bs = list_all not bs ≡ true

none_sent : (b : Bool) → LedFrom b []
none_sent b = grind arith

one_sent : (b : Bool) (bs : List Bool) → LedFrom false bs → LedFrom b (b ∷ bs)
one_sent b bs h = grind arith

leads_next-sent_on : (t : Talk) (k : Coded) → leads_next (sent_on t k) ≡ false
leads_next-sent_on t k = grind arith

-- a line ends the talk, or leaves open whether the digest leads next
abbrev Goes : PanelEntry → PanelEntry → Type 0
Goes e f = (f.greeting ≡ ungreeted) ⊎ (leads_next (talk_of f) ≡ leads_next (talk_of e))

module _ (e : PanelEntry) where
  reply_goes : (m : Option Command) (l : List ℕ) → Goes e (replied_to e m l)
  reply_goes m l = grind arith

  line_goes : (l : List ℕ) → (e.greeting ≡ ungreeted → ⊥) → Goes e (heard_line e l)
  line_goes l greeted =
      step_by e l (Goes e) (λ g. absurd (greeted g)) (λ g w. inr refl) (λ g w. reply_goes (coded_command e.command) l)

-- where the talk has ended, nothing is sent in it
ended_sends_none : (e : PanelEntry) (xs : List Happens) → e.greeting ≡ ungreeted → led_in_talk e xs ≡ []
ended_sends_none e [] g = refl
ended_sends_none e (x ∷ xs) g = if_yes _ _ (eq-eqb e.greeting ungreeted g)

module _ (xs : List Happens) (rest : (f : PanelEntry) → LedFrom (leads_next (talk_of f)) (led_in_talk f xs)) where
  goes_on : (e f : PanelEntry) → Goes e f → LedFrom (leads_next (talk_of e)) (led_in_talk f xs)
  goes_on e f h = grind (arith, ended_sends_none)

  one_more : (e : PanelEntry) → (e.greeting ≡ ungreeted → ⊥) → (x : Happens) → LedFrom (leads_next (talk_of e))
      ((if is_sent e x then leads_next (talk_of e) ∷ [] else []) ++ led_in_talk (after_it e x) xs)
  one_more e h x = grind (arith, one_sent, leads_next-sent_on, goes_on, line_goes)

led_from : (xs : List Happens) (e : PanelEntry) → LedFrom (leads_next (talk_of e)) (led_in_talk e xs)
led_from [] e = none_sent _
led_from (x ∷ xs) e = grind (arith, none_sent, one_more, eqb-false, led_from xs)

module _ (e : PanelEntry) (xs : List Happens) where
  pub digest_leads_the_first : (random : ℕ)
      → is_first_led (led_in_talk (with_talk e (greeted_by greeted_secured random)) xs) ≡ true
  digest_leads_the_first random = led_from xs (with_talk e (greeted_by greeted_secured random))

  pub digest_leads_none : list_all not (led_in_talk (with_talk e (greeted_by greeted_open 0)) xs) ≡ true
  digest_leads_none = led_from xs (with_talk e (greeted_by greeted_open 0))
