-- What RULES, Panel and The numbers a call gives, ask of each call of a panel, for any panel and every record,
-- projector, line and memory. PanelDemand says what a line does to the entry of its projector.
-- TO BELIEVE IT, believe, and nothing else: the rows of each call (panel/specs/PanelCalls), a legal panel
-- (panel/specs/LegalPanels), what an entry is when it was just added, sent a command, or lost (`fresh_entry`,
-- `sent_entry`, `lost_entry` of panel/specs: Entries, Stepping), when the digest leads (`leads_next`) and the line that
-- it leads (controller/specs/Writing, pjlink/specs/Commands), the codes (codes/specs/Commands); panel/specs/AnyPanel.
--   OnlyThere p i e q    q is p, but that the projector i has the entry e
--   GrownBy p e q        q is p, and a projector more, the last, with the entry e
--   line_due e m         the line of the command m to the projector whose entry is e
--   number_due rows      the number by the rows of a call
--   CallDone p rows line Left r    the call on the panel p that gave r is refused by these rows; else it sends the
--                        line, and Left is what it leaves
--   IsNone r             what gave r made the panel of no projector
-- Assumes nothing.
use Rattle.std.specs.Prelude.{ℕ, ◌+◌, ◌≡◌, true, List, [], ◌++◌, Option, Some, None}
use Rattle.text.specs.Rows.{RefusalRow, first_of, numbers_of}
use Rattle.pjlink.specs.Commands.{command_line}
use Rattle.pjlink.specs.declared.command.Command.{Command}
use Rattle.controller.specs.Writing.{led_by}
use Rattle.codes.specs.Commands.{coded_command}
use Rattle.codes.specs.declared.command.Coded.{Coded}
use Rattle.panel.specs.AnyPanel.{AnyPanel, PanelAs}
use Rattle.panel.specs.Entries.{talk_of, password_in, leads_next, fresh_entry}
use Rattle.panel.specs.Stepping.{lost_entry, sent_entry}
use Rattle.panel.specs.LegalPanels.{is_panel}
use Rattle.panel.specs.PanelCalls.{entry_at, adding_rows, commanding_rows, projector_rows}
use Rattle.panel.specs.declared.types.PanelEntry.{PanelEntry}
use Rattle.panel.specs.declared.types.Panel.{Panel}
use Rattle.panel.specs.Refusals.{panel_refusal_number}
use Rattle.panel.specs.declared.refusal.PanelRefusal.{PanelRefusal}

pub record OnlyThere (p : Panel) (i : ℕ) (e : PanelEntry) (q : Panel) : Type 0 where
  pub count : q.count ≡ p.count
  pub here : entry_at q i ≡ e
  pub others : (j : ℕ) → (j ≡ i → ⊥) → entry_at q j ≡ entry_at p j

pub record GrownBy (p : Panel) (e : PanelEntry) (q : Panel) : Type 0 where
  pub count : q.count ≡ p.count + 1
  pub here : entry_at q p.count ≡ e
  pub others : (j : ℕ) → (j ≡ p.count → ⊥) → entry_at q j ≡ entry_at p j

abbrev pub line_due : PanelEntry → Option Command → List ℕ
line_due e (Some c) = led_by (leads_next (talk_of e)) e.random (password_in e) ++ command_line c
line_due e None = []

abbrev pub number_due : List (RefusalRow PanelRefusal) → ℕ
number_due rows = first_of (numbers_of panel_refusal_number rows)

pub record CallDone (p : Panel) (rows : List (RefusalRow PanelRefusal)) (line : List ℕ) (Left : Panel → Type 0)
    (r : PanelAs) : Type 0 where
  -- "the first of them that applies, in the order of the table"
  pub number : r.number ≡ number_due rows
  -- "a refusal keeps the panel and writes nothing"
  pub refused : (number_due rows ≡ 0 → ⊥) → (r.panel ≡ p) × (r.line ≡ [])
  pub sends : number_due rows ≡ 0 → r.line ≡ line
  pub leaves : number_due rows ≡ 0 → Left r.panel
  -- "a legal one stays legal"
  pub stays_legal : is_panel p ≡ true → is_panel r.panel ≡ true

pub record IsNone (r : PanelAs) : Type 0 where
  pub number : r.number ≡ 0
  pub sends : r.line ≡ []
  pub count : r.panel.count ≡ 0
  pub legal : is_panel r.panel ≡ true

module _ (P : AnyPanel) where
  pub record PanelCallsDone : Type 0 where
    pub begins : IsNone P.none
    -- "adds one: its greeting is awaited, nothing is known, no strays", and all others stay as they were
    pub adds : (p : Panel) (s : List ℕ)
        → CallDone p (adding_rows p s) [] (GrownBy p (fresh_entry s)) (P.add p s)
    -- "writes a command's line; it is then under way": in memory of any length the line is this one
    pub commands : (p : Panel) (i : ℕ) (k : Coded) (room : ℕ)
        → CallDone p (commanding_rows p i k room) (line_due (entry_at p i) (coded_command k))
        (OnlyThere p i (sent_entry (entry_at p i) k)) (P.command p i k room)
    -- "a step on a lent line from a named projector": it sends nothing, and is PanelDemand's
    pub hears : (p : Panel) (i : ℕ) (l : List ℕ)
        → CallDone p (projector_rows p i) [] (λ q. Unit {0}) (P.hear p i l)
    -- "a refused one tells nothing of the line"
    pub tells_nothing : (p : Panel) (i : ℕ) (l : List ℕ) → (number_due (projector_rows p i) ≡ 0 → ⊥)
        → P.tell p i l ≡ None
    -- "the connection is gone"
    pub loses : (p : Panel) (i : ℕ)
        → CallDone p (projector_rows p i) [] (OnlyThere p i (lost_entry (entry_at p i))) (P.lose p i)
