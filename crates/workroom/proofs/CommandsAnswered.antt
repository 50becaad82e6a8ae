-- A command that the panel sends on a joined connection: its line is one that the device takes whole, open or behind
-- the digest. One of a class no higher than the device's is answered: the reply comes back, is accepted, and what the
-- device meant is shown. A higher one is swallowed, and stays under way (RULES, Class 2). A code that stands for no
-- command leaves all as it was.
-- Assumes nothing.
use Rattle.std.proofs.Common.{ℕ, ◌≤◌, ◌<◌, ◌≡◌, refl, sym, ap, subst, ◌∙◌, Bool, true, false, not, ◌&&◌, List, ◌++◌}
use Rattle.std.proofs.Common.{arith, length, ⊎_elim, ne_eqb, Option, Some, None, Ok, is_some}
use Rattle.text.specs.Flags.{is_raised, flag_of}
use Rattle.text.proofs.Choices.{if_no}
use Rattle.text.proofs.Orders.{le_or_lt}
use Rattle.digest.specs.Hex.{leading_digest}
use Rattle.pjlink.specs.Commands.{command_class, is_command, command_line}
use Rattle.pjlink.specs.declared.command.Command.{Command}
use Rattle.pjlink.specs.Said.{Said}
use Rattle.record.specs.Limits.{phase_awaiting, phase_open}
use Rattle.record.specs.Legal.{is_legal}
use Rattle.record.specs.Places.{connection_at, is_closed, with_place}
use Rattle.record.specs.declared.types.CollectedLine.{CollectedLine}
use Rattle.record.specs.declared.types.Own.{Own}
use Rattle.record.specs.declared.types.Connection.{Connection}
use Rattle.record.specs.declared.types.Device.{Device}
use Rattle.record.proofs.ConnectionsTold.{placed_here}
use Rattle.record.proofs.LegalTold.{legal_settings, legal_own, legal_places}
use Rattle.stream.proofs.LinesSpelt.{empty_spelt}
use Rattle.meaning.specs.Meaning.{answer_for, after_request}
use Rattle.meaning.proofs.CanBeSaid.{meant_fits, meant_can_be_said}
use Rattle.device.specs.Receiving.{set_up_password, phase_start}
use Rattle.text.specs.Outcomes.{CallResult, number_answered}
use Rattle.record.specs.declared.refusal.Refusal.{Refusal}
use Rattle.device.specs.Calls.{reply_room, received_at}
use Rattle.device.proofs.CommandsReceived.{reply_to, command_result, command_received, command_received_secured}
use Rattle.device.proofs.CommandsReceived.{swallowed_at, higher_received, higher_received_secured}
use Rattle.device.proofs.Legal.{receiving_legal}
use Rattle.controller.specs.Writing.{command_room, led_by}
use Rattle.controller.specs.Reading.{meaning, read_reply}
use Rattle.controller.proofs.ReadsBack.{reply_read}
use Rattle.codes.specs.Commands.{coded_command}
use Rattle.codes.specs.declared.command.Coded.{Coded}
use Rattle.codes.proofs.CodesBack.{command_writable}
use Rattle.panel.specs.AnyPanel.{panel_in, ours_panel}
use Rattle.panel.specs.Refusals.{panel_refusal_number}
use Rattle.panel.specs.Entries.{Talk, talk_of, shown_of, password_in, ungreeted, is_secured_talk, leads_next}
use Rattle.panel.specs.Showing.{showing}
use Rattle.panel.specs.Stepping.{answered_entry, sent_entry, heard_line, is_unready, line_sent}
use Rattle.panel.specs.StepTable.{IsUnderWay, answers}
use Rattle.panel.specs.PanelCalls.{entry_at, sent_at, command_at, stepped_at}
use Rattle.panel.specs.declared.types.PanelEntry.{PanelEntry}
use Rattle.panel.specs.declared.types.Panel.{Panel}
use Rattle.panel.specs.declared.refusal.PanelRefusal.{PanelRefusal}
use Rattle.panel.proofs.Cases.{Commands, commanded_by, commanded_done}
use Rattle.panel.proofs.LinesSent.{line_sent_whole}
use Rattle.panel.proofs.StepsByTable.{row_steps}
use Rattle.workroom.specs.Workroom.{Workroom, room_of, asks, delivered, asked_as, happened}
use Rattle.workroom.specs.MeantThrough.{said_to, done_for, IsWithin}
use Rattle.workroom.specs.ShowsWhatWasMeant.{Fit, both_open, both_secured, our_entry, our_connection, IsJoined, ShownAs}
use Rattle.workroom.specs.ShowsWhatWasMeant.{UnansweredAs}
use Rattle.workroom.specs.PanelDemand.{IsServed}
use Rattle.workroom.proofs.Cuts.{handed_in_cuts}
use Rattle.workroom.proofs.EntriesStep.{entry_legal_there, entry_at-command_at, sent_served, entry_at-stepped_at}
use Rattle.workroom.proofs.EntriesStep.{heard_served, delivered-cons}
use Rattle.workroom.proofs.Standing.{shown_as_it_stands, joined_served, device_as_it_was, panel_as_it_was}

-- both sides that fit have a connection
fit_greeted : {t : Talk} {c : Connection} → Fit t c → t.greeting ≡ ungreeted → ⊥
fit_greeted fit = grind arith

fit_live : {t : Talk} {c : Connection} → Fit t c → is_closed c ≡ false
fit_live fit = grind arith

-- nothing leads what follows a first command
none_leads : (s : Bool) → (s && not (is_raised (flag_of s))) ≡ false
none_leads true = refl
none_leads false = refl

module _ (i p : ℕ) (w : Workroom) (j : IsJoined i p w) where
  abbrev entry : PanelEntry
  entry = our_entry i w

  abbrev device : Device
  device = w.device

  abbrev connection : Connection
  connection = connection_at device p

  joined_ready : is_unready entry ≡ false
  joined_ready = grind (arith, fit_greeted)

  module _ (k : Coded) (c : Command) (is : coded_command k ≡ Some c) where
    can_command : Commands w.panel i k command_room
    can_command = grind (arith, joined_ready)

    abbrev writable : is_command c ≡ true
    writable = command_writable k c is

    abbrev told : Said
    told = answer_for device.settings device.own (Ok c)

    abbrev sent : List ℕ
    sent = line_sent entry (coded_command k) command_room

    spelt : sent ≡ led_by (leads_next (talk_of entry)) entry.random (password_in entry) ++ command_line c
    spelt =
        ap (λ (m : Option Command). line_sent entry m command_room) is
        ∙ line_sent_whole entry c command_room (entry_legal_there w.panel i (joined_served j)) writable (omega arith)

    -- how the device takes a line
    abbrev Answers : (ℕ → CallResult Refusal ℕ Device) → List ℕ → Type 0
    Answers r l = received_at device p l reply_room ≡ r (length l)

    unmarked : is_raised connection.line.overlong ≡ false
    unmarked = ap (λ (l : CollectedLine). is_raised l.overlong) (j.between ∙ empty_spelt)

    none_held : connection.line.held ≡ 0
    none_held = ap (λ (l : CollectedLine). l.held) (j.between ∙ empty_spelt)

    led_alike : (led : Bool) → leads_next (talk_of entry) ≡ led → {random : ℕ} → entry.random ≡ random
        → sent ≡ led_by led random (set_up_password device.settings) ++ command_line c
    led_alike led e same = grind (arith, spelt)

    abbrev led_line : List ℕ
    led_line = leading_digest connection.random (set_up_password device.settings) ++ command_line c

    taken_by_fit : (r : ℕ → CallResult Refusal ℕ Device) → (connection.phase ≡ phase_open → Answers r (command_line c))
        → (connection.phase ≡ phase_awaiting → Answers r led_line) → Fit (talk_of entry) connection → Answers r sent
    taken_by_fit r plain led (both_open phase greeted later) =
        subst (Answers r) (sym (led_alike false later refl)) (plain phase)
    taken_by_fit r plain led (both_secured phase greeted first same) =
        subst (Answers r) (sym (led_alike true first same)) (led phase)

    command_taken : command_class c ≤ device.settings.class_number → Answers (command_result device p c) sent
    command_taken within =
        taken_by_fit (command_result device p c)
        (command_received device p j.place reply_room j.acquainted.device (omega arith) unmarked none_held c
        writable within)
        (command_received_secured device p j.place reply_room j.acquainted.device (omega arith) unmarked none_held
        c writable within)
        j.fit

    higher_taken : device.settings.class_number < command_class c → Answers (swallowed_at device p) sent
    higher_taken higher =
        taken_by_fit (swallowed_at device p)
        (higher_received device p j.place reply_room j.acquainted.device (omega arith) unmarked none_held c
        higher)
        (higher_received_secured device p j.place reply_room j.acquainted.device (omega arith) unmarked none_held
        c higher)
        j.fit

    abbrev sending : CallResult PanelRefusal (Unit {0}) Panel
    sending = command_at w.panel i k command_room

    done_sending : sending ≡ sent_at w.panel i k command_room
    done_sending = commanded_done w.panel i k command_room can_command

    told_back : read_reply c (reply_to c told) ≡ meaning told
    told_back =
        let settings = legal_settings device j.acquainted.device in
        let own = legal_own device j.acquainted.device in
        let fits = meant_fits device.settings device.own settings own (Ok c) in
        let short = fits.short in
        reply_read c (meant_can_be_said device.settings device.own settings own c) (omega arith) fits.has_no_cr

    sent_there : IsServed sending.leaves i
    sent_there = sent_served w.panel i (joined_served j) k command_room

    entry_sent : entry_at sending.leaves i ≡ sent_entry entry k
    entry_sent = entry_at-command_at w.panel i (joined_served j) k command_room can_command

    under_way : IsUnderWay (sent_entry entry k) c
    under_way = record { greeted = fit_greeted j.fit; waits = refl; asked = is }

    -- the device afterwards, with the own part o
    abbrev left : Own → Device
    left o = with_place device o p (phase_start connection phase_open)

    left_open : (o : Own) → connection_at (left o) p ≡ phase_start connection phase_open
    left_open o = placed_here device (legal_places device j.acquainted.device) p j.place o _

    module _ (there back : List ℕ) where
      abbrev asking : Workroom
      asking = happened ours_panel i p w (asks k there back)

      -- a line that is taken whole, and what comes back of it
      asked_as_lem : (r : ℕ → CallResult Refusal ℕ Device) → Answers r sent
          → number_answered (r (length sent)) ≡ length sent
          → asking
          ≡ room_of (delivered ours_panel i sending.leaves back (r (length sent)).bytes) (r (length sent)).leaves
      asked_as_lem r taken whole = grind (arith, done_sending, handed_in_cuts, fit_live)

      phase_then : {o : Own} {q : Panel} → asking ≡ room_of q (left o) → (our_connection p asking).phase ≡ phase_open
      phase_then {o} so =
          ap (λ (x : Workroom). (our_connection p x).phase) so ∙ ap (λ (c : Connection). c.phase) (left_open o)

      -- of a class higher than the device's
      module _ (higher : device.settings.class_number < command_class c) where
        swallowed_so : asking ≡ room_of sending.leaves (left device.own)
        swallowed_so = asked_as_lem (swallowed_at device p) (higher_taken higher) refl

        pub gets_no_reply : UnansweredAs i w c asking
        gets_no_reply = grind (arith, swallowed_so, entry_sent, under_way)

      -- of one no higher
      module _ (within : command_class c ≤ device.settings.class_number) where
        abbrev after : Panel
        after = (stepped_at sending.leaves i (reply_to c told)).leaves

        abbrev own : Own
        own = after_request device.settings device.own (Ok c)

        asked_so : asking ≡ room_of after (left own)
        asked_so =
            asked_as_lem (command_result device p c) (command_taken within) refl
            ∙ ap (λ (q : Panel). room_of q (left own)) (delivered-cons i sending.leaves back _ _)

        entry_then : entry_at after i ≡ answered_entry (sent_entry entry k) told
        entry_then =
            entry_at-stepped_at sending.leaves i sent_there (reply_to c told)
            ∙ ap (λ (e : PanelEntry). heard_line e (reply_to c told)) entry_sent
            ∙ row_steps (sent_entry entry k) (reply_to c told) (answers c told under_way told_back)

        reply_shown : ShownAs i p w (showing (shown_of entry) told) own asking
        reply_shown =
            subst (ShownAs i p w (showing (shown_of entry) told) own) (sym asked_so)
            (shown_as_it_stands j.acquainted
            (record {
              served = heard_served sending.leaves i sent_there (reply_to c told);
              stands = entry_then;
              password = refl;
              strays = refl;
            })
            j.place
            (record {
              legal = ap (λ (r : CallResult Refusal ℕ Device). is_legal r.leaves) (sym (command_taken within))
                  ∙ receiving_legal device j.acquainted.device p _ reply_room;
              settings = refl;
              stands = left_open own;
              between = refl;
            })
            refl (both_open refl (fit_greeted j.fit) (none_leads (is_secured_talk (talk_of entry)))))

  pub as_it_was : ShownAs i p w (shown_of entry) device.own w
  as_it_was = shown_as_it_stands j.acquainted (panel_as_it_was j) j.place (device_as_it_was j) j.rests j.fit

  module _ (k : Coded) (there back : List ℕ) where
    abbrev then : Workroom
    then = happened ours_panel i p w (asks k there back)

    -- of a code that stands for nothing nothing is sent
    refused_so : coded_command k ≡ None → then ≡ w
    refused_so none =
        commanded_by w.panel i k command_room (λ r. asked_as ours_panel i p (panel_in r) device there back ≡ w)
        (λ e other. if_no _ _ (ne_eqb (panel_refusal_number e) 0 other)) (λ can. cc (ap is_some none, can.named))

    -- once something was asked the connection is open, answered or not, and an open one stays so
    pub asked_open : is_some (coded_command k) ≡ true → (our_connection p then).phase ≡ phase_open
    asked_open named = by (coded_command k) refl
      where
        by : (m : Option Command) → coded_command k ≡ m → (our_connection p then).phase ≡ phase_open
        by (Some c) is =
            ⊎_elim
            (λ (within : command_class c ≤ device.settings.class_number).
            phase_then k c is there back (asked_so k c is there back within))
            (λ (higher : device.settings.class_number < command_class c).
            phase_then k c is there back (swallowed_so k c is there back higher))
            (le_or_lt (command_class c) device.settings.class_number)
        by None none = cc (ap is_some none, named)

    pub open_asked : connection.phase ≡ phase_open → (our_connection p then).phase ≡ phase_open
    open_asked stands = grind (arith, asked_open, refused_so)

    pub command_shown : IsWithin device.settings (coded_command k)
        → ShownAs i p w (showing (shown_of entry) (said_to device.settings device.own (coded_command k)))
        (done_for device.settings device.own (coded_command k)) then
    command_shown = by (coded_command k) refl
      where
        by : (m : Option Command) → coded_command k ≡ m → IsWithin device.settings m
            → ShownAs i p w (showing (shown_of entry) (said_to device.settings device.own m))
            (done_for device.settings device.own m) then
        by (Some c) is within = reply_shown k c is there back within
        by None none within = subst (ShownAs i p w (shown_of entry) device.own) (sym (refused_so none)) as_it_was
