-- The panels of specs/WrongPanels.antt fall, each to what is asked of one sample, where the two numbers shown differ.
-- Assumes nothing.
use Rattle.std.proofs.Common.{ℕ, ◌+◌, ◌≡◌, refl, ap, false, List, [], arith, codes, slice_index_or, ◌==◌}
use Rattle.std.proofs.lemmas.Bool.{eqb-false}
use Rattle.pjlink.specs.declared.command.Command.TheVariants.{Query}
use Rattle.pjlink.specs.declared.body.Body.TheVariants.{Powr, Lamp}
use Rattle.pjlink.specs.Forms.{erra_line}
use Rattle.controller.specs.Writing.{command_room}
use Rattle.codes.specs.Commands.{code_of}
use Rattle.panel.specs.Entries.{Talk, Shown}
use Rattle.panel.specs.StepTable.{IsStray, late, malformed, foreign}
use Rattle.panel.specs.Hearing.{heard_kind}
use Rattle.panel.specs.PanelCalls.{entry_at}
use Rattle.panel.specs.declared.types.PanelEntry.{PanelEntry}
use Rattle.workroom.specs.Workroom.{asks}
use Rattle.workroom.specs.ShowsWhatWasMeant.{ShowsWhatWasMeant}
use Rattle.workroom.specs.PanelDemand.{PanelDemand}
use Rattle.workroom.specs.PanelCallsDone.{PanelCallsDone}
use Rattle.workroom.specs.WrongPanels.{takes_foreign, ends_on_malformed, keeps_after_erra, stray_count_wraps}
use Rattle.workroom.specs.WrongPanels.{shows_late, counts_nothing, shows_no_reply}
use Rattle.workroom.specs.WrongPanels.{forgets_at_addition, tells_the_password, refuses_what_it_does}
use Rattle.workroom.specs.WrongPanels.{hides_the_wrong_password}
use Rattle.workroom.specs.Computing.{computing}
use Rattle.workroom.proofs.Samples.{resting, asked, resting_served, full_served, asked_served, lamps_asked}
use Rattle.workroom.proofs.Samples.{workroom, workroom_joined, powr_within}

abbrev power_off : List ℕ
power_off = codes "%1POWR=0\r"

abbrev power_shown : Shown → ℕ
power_shown s = s.power

abbrev waits_for : Talk → ℕ
waits_for t = t.under_way

differ : (m n : ℕ) → (m == n) ≡ false → m ≡ n → ⊥
differ m n other = eqb-false m n other

late_line : (strays : ℕ) (l : List ℕ) → IsStray (entry_at (resting strays) 0) l
late_line strays l = late (λ none. omega arith) refl

foreign_line : IsStray (entry_at (asked 0) 0) power_off
unfolding computing
foreign_line = foreign (Query Lamp) lamps_asked refl

broken_line : IsStray (entry_at (asked 0) 0) (codes "%1LAMP")
unfolding computing
broken_line = malformed (Query Lamp) lamps_asked refl

-- LAMP is under way, and POWR is answered: the power that is shown
pub takes_foreign_falls : PanelDemand takes_foreign → ⊥
unfolding computing
takes_foreign_falls h =
    differ 0 1 refl (ap power_shown (h.strays_counted (asked 0) 0 power_off asked_served foreign_line).shows)

-- a part of the reply, as a host that joins no lines would hand it on: whether a command is under way
pub ends_on_malformed_falls : PanelDemand ends_on_malformed → ⊥
unfolding computing
ends_on_malformed_falls h =
    differ 0 1 refl (ap waits_for (h.strays_counted (asked 0) 0 (codes "%1LAMP") asked_served broken_line).talks)

-- the power that is shown after ERRA
pub keeps_after_erra_falls : PanelDemand keeps_after_erra → ⊥
unfolding computing
keeps_after_erra_falls h =
    differ 1 0 refl (ap power_shown (h.erra_forgets (asked 0) 0 (Query Lamp) asked_served lamps_asked).shows)

-- the 65,536th stray
pub stray_count_wraps_falls : PanelDemand stray_count_wraps → ⊥
unfolding computing
stray_count_wraps_falls h =
    differ 0 65535 refl
    (h.strays_counted (resting 65535) 0 power_off full_served (late_line 65535 power_off)).counts

-- a late reply: the power that is shown
pub shows_late_falls : PanelDemand shows_late → ⊥
unfolding computing
shows_late_falls h =
    differ 0 1 refl
    (ap power_shown (h.strays_counted (resting 0) 0 power_off resting_served (late_line 0 power_off)).shows)

-- the first stray
pub counts_nothing_falls : PanelDemand counts_nothing → ⊥
unfolding computing
counts_nothing_falls h =
    differ 0 1 refl (h.strays_counted (resting 0) 0 power_off resting_served (late_line 0 power_off)).counts

-- POWR is asked of a device that is off: the power that is shown afterwards
pub shows_no_reply_falls : ShowsWhatWasMeant shows_no_reply → ⊥
unfolding computing
shows_no_reply_falls h =
    differ 1 0 refl
    (ap power_shown (h.shows 0 0 workroom (asks (code_of (Query Powr)) [] []) workroom_joined powr_within).shows)

-- a second projector is added: the strays of the first
pub forgets_at_addition_falls : PanelCallsDone forgets_at_addition → ⊥
unfolding computing
forgets_at_addition_falls h =
    differ 0 65535 refl
    (ap (λ (e : PanelEntry). e.strays) (((h.adds (resting 65535) []).leaves refl).others 0 (λ z. omega arith)))

-- a byte more than the least: the first byte sent, where the password is none
pub tells_the_password_falls : PanelCallsDone tells_the_password → ⊥
unfolding computing
tells_the_password_falls h =
    differ 13 37 refl
    (ap (λ (l : List ℕ). slice_index_or l 0 0)
    ((h.commands (resting 0) 0 (code_of (Query Lamp)) (command_room + 1)).sends refl))

-- the number of a loss
pub refuses_what_it_does_falls : PanelCallsDone refuses_what_it_does → ⊥
unfolding computing
refuses_what_it_does_falls h = differ 3 0 refl (h.loses (resting 0) 0).number

-- the ERRA line, where LAMP is under way: what it is told to be
pub hides_the_wrong_password_falls : PanelDemand hides_the_wrong_password → ⊥
unfolding computing
hides_the_wrong_password_falls h =
    differ 6 3 refl (ap heard_kind (h.replies_told (asked 0) 0 erra_line (Query Lamp) asked_served lamps_asked))
