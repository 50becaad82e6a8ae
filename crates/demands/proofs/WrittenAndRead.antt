-- THE LAW, from writer to reader: for a legal projector on a connection between lines, what the writer wrote for a
-- command of a class no higher than the set-up's is taken whole, and what the reader takes from the reply is what the
-- projector meant (RULES, Controller and Class 2); one of a higher class is swallowed. And what the greeting reader
-- takes from the opening reply is what opening did.
--   TakenAndRead d p c bs r    the result r of receiving bs at place p: number 0, exactly bs taken, the record as the
--                              command leaves it on a connection open between lines with the random number kept, the
--                              reply read as meant
-- Assumes nothing.
use Rattle.std.proofs.lemmas.Grind.{common_steps}
use Rattle.std.proofs.Common.{ℕ, ◌≤◌, ◌<◌, ◌≡◌, refl, sym, ap, subst, ◌∙◌, true, false, List, ◌++◌, arith, length, ◌^◌}
use Rattle.std.proofs.Common.{Bool, Ok}
use Rattle.text.specs.Flags.{is_raised}
use Rattle.digest.specs.Hex.{leading_digest}
use Rattle.pjlink.specs.Commands.{command_class, is_command, command_line}
use Rattle.pjlink.specs.declared.command.Command.{Command}
use Rattle.record.specs.declared.refusal.Refusal.{Refusal}
use Rattle.record.specs.Refusals.{refusal_number}
use Rattle.record.specs.Limits.{places_count, phase_awaiting, phase_open}
use Rattle.record.specs.Legal.{is_legal}
use Rattle.record.specs.Places.{connection_at, with_place, lowest_closed, is_closed}
use Rattle.record.specs.declared.types.Connection.{Connection}
use Rattle.record.specs.declared.types.Device.{Device}
use Rattle.record.specs.declared.types.CollectedLine.{CollectedLine}
use Rattle.record.proofs.LegalTold.{legal_settings, legal_own, legal_connection, legal_places}
use Rattle.record.proofs.FactsTold.{settings_is}
use Rattle.stream.specs.Collecting.{empty_line}
use Rattle.stream.proofs.LegalLines.{between_lines}
use Rattle.stream.proofs.LinesCollected.{empty_is_none}
use Rattle.meaning.specs.Meaning.{answer_for, after_request}
use Rattle.meaning.proofs.CanBeSaid.{meant_fits, meant_can_be_said}
use Rattle.device.specs.Receiving.{phase_start, set_up_password}
use Rattle.device.specs.Calls.{reply_room, received_at, greeting, new_connection, opened_by}
use Rattle.device.proofs.CommandsReceived.{command_result, command_received, command_received_secured, swallowed_at}
use Rattle.device.proofs.CommandsReceived.{higher_received, higher_received_secured}
use Rattle.device.proofs.Legal.{line_legal}
use Rattle.controller.specs.Reading.{meaning, read_reply}
use Rattle.text.specs.Outcomes.{CallResult, served_as, call_number, number_answered}
use Rattle.std.specs.Result.{is_ok}
use Rattle.controller.specs.Writing.{command_room, written_command, led_by, unwritten_number}
use Rattle.controller.specs.declared.writing.Unwritten.{Unwritten}
use Rattle.controller.proofs.Cases.{written_plain, written_led, written_by}
use Rattle.controller.proofs.ReadsBack.{reply_read}
use Rattle.record.specs.declared.types.Settings.{Settings}
use Rattle.record.proofs.ConnectionsTold.{placed_here}
use Rattle.device.proofs.Cases.{opened_greeted, greeted_by_lem}
use Rattle.pjlink.specs.Greetings.{read_greeting}
use Rattle.demands.specs.Greeted.{greeted_on}
use Rattle.pjlink.proofs.GreetingsHeard.{open_heard, secured_heard}
use Rattle.text.proofs.Orders.{le_or_lt}
use Rattle.record.proofs.LowestClosed.{below_lowest}
use Rattle.ours.specs.Board.{bytes_written, reply, wrote_in, ours}
use Rattle.demands.specs.SpeaksPjlink.{BetweenLines, ByClass}
use Rattle.demands.proofs.KeepsRunning.{over_front}

-- "between lines", no collected bytes and no overlong flag, is what the laws ask of the line
pub is_between : (d : Device) (p : ℕ) → p < places_count → is_legal d ≡ true
    → is_raised (connection_at d p).line.overlong ≡ false → (connection_at d p).line.held ≡ 0
    → (connection_at d p).line ≡ empty_line
is_between d p there legal unmarked none =
    let k = connection_at d p in
    between_lines k.phase k.line (line_legal k (legal_connection d legal p there)) unmarked none

pub record TakenAndRead (d : Device) (p : ℕ) (c : Command) (bs : List ℕ)
    (r : CallResult Refusal ℕ Device) : Type 0 where
  pub number : call_number refusal_number r ≡ 0
  pub taken : number_answered r ≡ length bs
  pub device : r.leaves
      ≡ with_place d (after_request d.settings d.own (Ok c)) p (phase_start (connection_at d p) phase_open)
  pub said : read_reply c r.bytes ≡ meaning (answer_for d.settings d.own (Ok c))

module _ (d : Device) (p : ℕ) (there : p < places_count) (legal : is_legal d ≡ true)
    (between : (connection_at d p).line ≡ empty_line) (c : Command) (writable : is_command c ≡ true)
    (within : command_class c ≤ d.settings.class_number) (room : ℕ) (enough : reply_room ≤ room) where
  abbrev here : Connection
  here = connection_at d p

  unmarked : is_raised here.line.overlong ≡ false
  unmarked = ap (λ (l : CollectedLine). is_raised l.overlong) (between ∙ empty_is_none)

  none : here.line.held ≡ 0
  none = ap (λ (l : CollectedLine). l.held) (between ∙ empty_is_none)

  read_back : (bs : List ℕ) → received_at d p bs room ≡ command_result d p c (length bs)
      → TakenAndRead d p c bs (received_at d p bs room)
  read_back bs e =
      let settings = legal_settings d legal in
      let own = legal_own d legal in
      let fits = meant_fits d.settings d.own settings own (Ok c) in
      let short = fits.short in
      let said = reply_read c (meant_can_be_said d.settings d.own settings own c) (omega arith) fits.has_no_cr in
      subst (TakenAndRead d p c bs) (sym e) (record { number = refl; taken = refl; device = refl; said = said })

  pub command_reads_back : here.phase ≡ phase_open
      → TakenAndRead d p c (command_line c) (received_at d p (command_line c) room)
  command_reads_back phase =
      read_back (command_line c) (command_received d p there room legal enough unmarked none c writable within phase)

  abbrev led_line : List ℕ
  led_line = leading_digest here.random (set_up_password d.settings) ++ command_line c

  pub command_reads_back_secured : here.phase ≡ phase_awaiting
      → TakenAndRead d p c led_line (received_at d p led_line room)
  command_reads_back_secured phase =
      read_back led_line (command_received_secured d p there room legal enough unmarked none c writable within phase)

  -- what is written is no refusal, and is read back
  module _ (memory : ℕ) (lent : command_room ≤ memory) where
    abbrev Through : CallResult Unwritten (Unit {0}) (Unit {0}) → Type 0
    Through w = (is_ok w.says ≡ true) × TakenAndRead d p c w.bytes (received_at d p w.bytes room)

    pub written_reads_back : here.phase ≡ phase_open → (random : ℕ) (password : List ℕ)
        → Through (written_command c false random password memory)
    written_reads_back phase random password = grind (arith, written_plain, command_reads_back)

    -- the device's own random number and password
    pub written_reads_back_secured : here.phase ≡ phase_awaiting
        → Through (written_command c true here.random (set_up_password d.settings) memory)
    written_reads_back_secured phase =
        let told = (settings_is d.settings).0 (legal_settings d legal) in
        subst Through
        (sym (written_led c true here.random (set_up_password d.settings) memory lent writable refl
        told.password.follows))
        (refl, command_reads_back_secured phase)

read_greeting-greeting : (s : Settings) (r : ℕ) → r < 2 ^ 32
    → read_greeting (greeting s r) ≡ greeted_on (new_connection s r)
read_greeting-greeting s r word =
    greeted_by_lem s r (λ g c. read_greeting g ≡ greeted_on c) (secured_heard r word) open_heard

pub opening_greets_back : (d : Device) (r room : ℕ) → is_legal d ≡ true → lowest_closed d.connections < places_count
    → reply_room ≤ room → r < 2 ^ 32
    → let o = opened_by d r room in
    (call_number refusal_number o ≡ 0)
    × (read_greeting o.bytes ≡ greeted_on (connection_at o.leaves (number_answered o)))
opening_greets_back d r room legal free enough word =
    grind (arith, common_steps, placed_here, legal_places, opened_greeted, read_greeting-greeting)

pub writes : (c : Command) (secured : Bool) (random : ℕ) (password m : List ℕ)
    → let w = ours.write c secured random password m in
    w.number ≡ 0 → bytes_written w ≡ led_by secured random password ++ command_line c
writes c secured random password m =
    written_by c secured random password (length m)
    (λ r.
    let w = wrote_in unwritten_number r m in
    w.number ≡ 0 → bytes_written w ≡ led_by secured random password ++ command_line c)
    (λ h e. absurd (omega arith)) (λ h w e. absurd (omega arith)) (λ h w e. over_front _ m)

module _ (d : Device) (p : ℕ) (c : Command) (paper m : List ℕ) (writable : is_command c ≡ true)
    (roomy : command_room ≤ length paper) (enough : reply_room ≤ length m) where
  abbrev Told : CallResult Unwritten (Unit {0}) (Unit {0}) → List ℕ → Type 0
  Told w bs = ByClass ours d p c (wrote_in unwritten_number w paper) (ours.receive d p bs m)

  -- what was written stands on the paper, and is read back, or swallowed
  on_paper : (bs : List ℕ) (w : CallResult Unwritten (Unit {0}) (Unit {0})) → w ≡ served_as tt bs tt
      → (command_class c ≤ d.settings.class_number → TakenAndRead d p c bs (received_at d p bs (length m)))
      → (d.settings.class_number < command_class c → received_at d p bs (length m) ≡ swallowed_at d p (length bs))
      → Told w (bytes_written (wrote_in unwritten_number w paper))
  on_paper bs w e back ignored = grind (arith, over_front)

  pub reads_back : (random : ℕ) (password : List ℕ) → BetweenLines phase_open d p
      → let w = ours.write c false random password paper in ByClass ours d p c w (ours.receive d p (bytes_written w) m)
  reads_back random password between =
      on_paper (command_line c) _ (written_plain c false random password (length paper) roomy writable refl)
      (λ within. command_reads_back d p between.there between.legal
      (is_between d p between.there between.legal between.unmarked between.none_held) c writable within (length m)
      enough between.in_phase)
      (λ higher. higher_received d p between.there (length m) between.legal enough between.unmarked between.none_held
      c higher between.in_phase)

  pub reads_back_secured : BetweenLines phase_awaiting d p
      → let w = ours.write c true (connection_at d p).random (set_up_password d.settings) paper in
      ByClass ours d p c w (ours.receive d p (bytes_written w) m)
  reads_back_secured between =
      let random = (connection_at d p).random in
      let password = set_up_password d.settings in
      let told = (settings_is d.settings).0 (legal_settings d between.legal) in
      on_paper (leading_digest random password ++ command_line c) _
      (written_led c true random password (length paper) roomy writable refl told.password.follows)
      (λ within. command_reads_back_secured d p between.there between.legal
      (is_between d p between.there between.legal between.unmarked between.none_held) c writable within (length m)
      enough between.in_phase)
      (λ higher. higher_received_secured d p between.there (length m) between.legal enough between.unmarked
      between.none_held c higher between.in_phase)

pub greets_back : (d : Device) (random : ℕ) (m : List ℕ) → is_legal d ≡ true
    → (q : ℕ) → q < places_count → is_closed (connection_at d q) ≡ true → reply_room ≤ length m → random < 2 ^ 32
    → let r = ours.opening d random m in
    let p = ours.place_opened d random m in
    (r.number ≡ 0) × (ours.read_greeting (reply r) ≡ greeted_on (connection_at r.device p))
greets_back d random m legal q there closed enough word =
    let free : lowest_closed d.connections < places_count = grind (arith, below_lowest, le_or_lt) in
    let back = opening_greets_back d random (length m) legal free enough word in
    (back.0, ap read_greeting (over_front (opened_by d random (length m)).bytes m) ∙ back.1)
