-- What RULES, Panel asks of a panel's step, and of what it reports of the line, sentence by sentence, for any panel: on
-- a legal panel, for a projector that it has, whatever line comes. Which lines are late, foreign or malformed is
-- `IsStray` of panel/specs/StepTable, by the reader's own numbers; what a line says is what the readers take from it.
-- TO BELIEVE IT, believe, and nothing else: the readers (controller/specs/Reading, pjlink/specs/Greetings), the codes
-- (codes/specs/Commands), an entry's parts and what is shown (panel/specs: Entries, Showing), what a line may be said
-- to be (`HeardAs` of panel/specs/Hearing), `is_greeting`, `IsUnderWay` and `IsStray` (panel/specs/StepTable), a legal
-- panel, and any panel (panel/specs: LegalPanels, AnyPanel).
--   IsServed p i       the panel is legal and has the projector i
--   OnlyCounted e f    e and f differ in the count of strays alone, which is one more, or has stopped
--   EndedBy e m f      the command is ended, and m is shown
--   ForgotIn e f       the command is ended, all is unknown, a new greeting is awaited
--   IsGreeted e t f      the greeting is accepted, t is the state of the connection now
--   ShownBy e l f      what f shows is what e showed, or the line l was an accepted reply and f shows what it says, or
--                      it was the ERRA line and f shows nothing
-- Assumes nothing.
use Rattle.std.specs.Prelude.{ℕ, ◌+◌, ◌<◌, min, ◌≡◌, true, false, List, Some}
use Rattle.text.specs.Flags.{is_raised}
use Rattle.pjlink.specs.Forms.{erra_line}
use Rattle.pjlink.specs.declared.command.Command.{Command}
use Rattle.pjlink.specs.Said.{Said}
use Rattle.pjlink.specs.Greetings.{read_greeting}
use Rattle.controller.specs.Reading.{meaning, read_reply}
use Rattle.pjlink.specs.declared.greeting.Greeting.TheVariants.{Open, Secured}
use Rattle.panel.specs.AnyPanel.{AnyPanel}
use Rattle.panel.specs.Entries.{Talk, Shown, talk_of, shown_of, ungreeted, greeted_open, greeted_secured, greeted_by}
use Rattle.panel.specs.Entries.{no_talk, rested_on, nothing_shown}
use Rattle.panel.specs.Showing.{showing}
use Rattle.panel.specs.Hearing.{greets, no_greeting, too_late, replies}
use Rattle.panel.specs.LegalPanels.{is_panel}
use Rattle.panel.specs.StepTable.{is_greeting, IsUnderWay, IsStray}
use Rattle.panel.specs.PanelCalls.{entry_at}
use Rattle.panel.specs.declared.types.PanelEntry.{PanelEntry}
use Rattle.panel.specs.declared.types.Panel.{Panel}

pub record IsServed (p : Panel) (i : ℕ) : Type 0 where
  pub legal : is_panel p ≡ true
  pub there : i < p.count

-- an entry's four parts, afterwards
pub record PartsAre (f : PanelEntry) (e : PanelEntry) (talk : Talk) (shown : Shown) (strays : ℕ) : Type 0 where
  pub same_password : f.password ≡ e.password
  pub talks : talk_of f ≡ talk
  pub shows : shown_of f ≡ shown
  pub counts : f.strays ≡ strays

abbrev pub OnlyCounted : PanelEntry → PanelEntry → Type 0
OnlyCounted e f = PartsAre f e (talk_of e) (shown_of e) (min 65535 (e.strays + 1))

abbrev pub EndedBy : PanelEntry → Said → PanelEntry → Type 0
EndedBy e m f = PartsAre f e (rested_on (talk_of e)) (showing (shown_of e) m) e.strays

abbrev pub ForgotIn : PanelEntry → PanelEntry → Type 0
ForgotIn e f = PartsAre f e no_talk nothing_shown e.strays

abbrev pub IsGreeted : PanelEntry → Talk → PanelEntry → Type 0
IsGreeted e t f = PartsAre f e t (shown_of e) e.strays

pub data ShownBy (e : PanelEntry) (l : List ℕ) (f : PanelEntry) : Type 0 where
  stays_shown : shown_of f ≡ shown_of e → ShownBy e l f
  by_reply : (c : Command) (m : Said) → IsUnderWay e c → read_reply c l ≡ meaning m →
      shown_of f ≡ showing (shown_of e) m
      → ShownBy e l f
  by_erra : (c : Command) → IsUnderWay e c → l ≡ erra_line → shown_of f ≡ nothing_shown → ShownBy e l f

module _ (P : AnyPanel) where
  abbrev pub after_line : Panel → ℕ → List ℕ → PanelEntry
  after_line p i l = entry_at (P.hear p i l).panel i

  pub record PanelDemand : Type 0 where
    -- "A late, foreign or malformed reply changes nothing but a per-projector count of such lines, stopped at 65,535. A
    -- malformed or foreign line leaves the command under way"
    pub strays_counted : (p : Panel) (i : ℕ) (l : List ℕ) → IsServed p i → IsStray (entry_at p i) l
        → OnlyCounted (entry_at p i) (after_line p i l)
    -- "any accepted reply ends it, and an OK or error changes no reading"
    pub replies_shown : (p : Panel) (i : ℕ) (l : List ℕ) (c : Command) (m : Said) → IsServed p i
        → IsUnderWay (entry_at p i) c → read_reply c l ≡ meaning m
        → EndedBy (entry_at p i) m (after_line p i l)
    -- "ERRA ends it, makes that projector's readings unknown and awaits a new greeting"
    pub erra_forgets : (p : Panel) (i : ℕ) (c : Command) → IsServed p i → IsUnderWay (entry_at p i) c
        → ForgotIn (entry_at p i) (after_line p i erra_line)
    -- "Until a greeting is accepted": each of the two is
    pub open_greets : (p : Panel) (i : ℕ) (l : List ℕ) → IsServed p i → (entry_at p i).greeting ≡ ungreeted
        → read_greeting l ≡ Some Open
        → IsGreeted (entry_at p i) (greeted_by greeted_open 0) (after_line p i l)
    pub secured_greets : (p : Panel) (i : ℕ) (l : List ℕ) (random : ℕ)
        → IsServed p i → (entry_at p i).greeting ≡ ungreeted
        → read_greeting l ≡ Some (Secured random)
        → IsGreeted (entry_at p i) (greeted_by greeted_secured random) (after_line p i l)
    -- "The step touches only the named projector's entry"
    pub others_stay : (p : Panel) (i : ℕ) (l : List ℕ) (j : ℕ) → (j ≡ i → ⊥)
        → entry_at (P.hear p i l).panel j ≡ entry_at p j
    pub none_comes_or_goes : (p : Panel) (i : ℕ) (l : List ℕ) → (P.hear p i l).panel.count ≡ p.count
    -- "Otherwise the panel shows the last accepted reading": whatever line comes, what is shown changes by an accepted
    -- reply only, and by ERRA
    pub shown_by_replies : (p : Panel) (i : ℕ) (l : List ℕ) → IsServed p i → ShownBy (entry_at p i) l (after_line p i l)
    -- "What a line was is told: its greeting, or none where one is awaited"
    pub greetings_told : (p : Panel) (i : ℕ) (l : List ℕ) → IsServed p i → (entry_at p i).greeting ≡ ungreeted
        → is_greeting (read_greeting l) ≡ true → P.tell p i l ≡ Some greets
    pub no_greetings_told : (p : Panel) (i : ℕ) (l : List ℕ) → IsServed p i → (entry_at p i).greeting ≡ ungreeted
        → is_greeting (read_greeting l) ≡ false → P.tell p i l ≡ Some no_greeting
    -- "late"
    pub late_told : (p : Panel) (i : ℕ) (l : List ℕ) → IsServed p i → ((entry_at p i).greeting ≡ ungreeted → ⊥)
        → is_raised (entry_at p i).under_way ≡ false → P.tell p i l ≡ Some too_late
    -- "or what the reader takes from it": accepted, ERRA, foreign or malformed
    pub replies_told : (p : Panel) (i : ℕ) (l : List ℕ) (c : Command) → IsServed p i → IsUnderWay (entry_at p i) c
        → P.tell p i l ≡ Some (replies (read_reply c l))
