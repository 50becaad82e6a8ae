-- DEMAND 2. "The projector's lines and the controller's reading of them are those of PJLink Class 1, version 1.04, with
-- the digest of RFC 1321. On an open connection between lines, for every command our writer makes without a digest and
-- in every legal state, what our reader, told the command, takes from the reply is what the projector meant. On a
-- secured connection a first line without the matching digest yields the refusal line only; power, input, mutes and
-- lamps stay." What the projector meant is `answer_for`, the table of RULES, Commands (crate `meaning`), which knows no
-- bytes but a set-up's inputs, two characters each, by the table of RULES, Inputs.
-- TO BELIEVE IT, believe, and nothing else: MD5 and its digits (digest/specs); inputs, texts, UTF-8 and values
-- (words/specs), lines, commands and requests (pjlink/specs: Bodies, Commands, Forms, Requests); what an answer is and
-- which bytes say it (pjlink/specs: Said, CanSay, Writings); what a reading means and a greeting is (controller/specs:
-- `meaning`, `LineSays` of Reading, `Exactly` of Greetings; here Greeted); what is meant and done (meaning/specs); how
-- a line is answered and a connection greeted (device/specs: Answering, `is_led_by` of Receiving, and `greeting`,
-- `greeted` of Calls); what a byte and a line's end do to a connection (`keeping_line`, `line_ended` of Receiving;
-- `line_after` of stream/specs/Collecting); the record (record/specs); a stream in cuts (stream/specs/Machine);
-- ours/specs/Board; here Calls, CallsDone, Outsider. Demand 2 holds place by place (RULES, Places): what is said of a
-- connection is said of that at any place p, whatever the other places hold. Lines, commands and set-ups are of Class 1
-- or Class 2 (RULES, Class 2), and all is said of both; that a Class 1 set-up answers by Class 1 alone is in ClassOne.
--   BetweenLines phase d p   legal, at place p in that phase, no collected bytes and no overlong flag
--   ReadBack B d p c w r     the command c, written as w and received as r, is read as it was meant and done
--   AnsweredAs B d p bs a r  the bytes bs were all taken, and the answer is a
--   IsSwallowed B d p w r    the line written as w was taken whole, with no reply, and changed nothing
--   ByClass B d p c w r      the command c is read back if its class is no higher than the set-up's, else its line is
--                            swallowed
--   is_led d p l             the line l begins with the matching digest and is not overlong
--   RefusalOnly B d p out    the reply is the refusal line and nothing else; settings, own part and other places stay
--                            as they were, and the connection has failed
--   handed_on B m p d ps     the parts ps of a stream, each passed on until it is taken, with the memory m each time
--   Elsewhere B d c q        the call c is not at place q
-- Assumes nothing.
use Rattle.std.specs.Prelude.{ℕ, ◌≤◌, ◌<◌, ◌^◌, ◌≡◌, Bool, true, false, List, ◌++◌, ◌↔◌, length, set, Ok}
use Rattle.std.specs.Prelude.{if◌then◌else◌, nat_le, codes}
use Rattle.text.specs.Flags.{is_raised, flag_of}
use Rattle.digest.specs.Md5.{md5_of}
use Rattle.digest.specs.Hex.{leading_digest}
use Rattle.words.specs.Bytes.{is_cr_free, command_most}
use Rattle.pjlink.specs.Forms.{erra_line}
use Rattle.pjlink.specs.Commands.{is_command, command_class, command_line}
use Rattle.pjlink.specs.declared.body.Body.TheVariants.{Name}
use Rattle.pjlink.specs.declared.command.Command.{Command}
use Rattle.pjlink.specs.declared.command.Command.TheVariants.{Query}
use Rattle.pjlink.specs.Said.{Said, text_is}
use Rattle.record.specs.Limits.{places_count, phase_awaiting, phase_open, phase_failed}
use Rattle.record.specs.Wanted.{Wanted}
use Rattle.record.specs.Legal.{is_legal}
use Rattle.record.specs.Record.{closed, start_device}
use Rattle.record.specs.Updates.{with_own, with_fault, with_errors, with_marks}
use Rattle.record.specs.Places.{connection_at, with_place, is_closed}
use Rattle.record.specs.declared.types.Device.{Device}
use Rattle.record.specs.declared.types.Connection.{Connection}
use Rattle.meaning.specs.Meaning.{answer_for, after_request}
use Rattle.stream.specs.Machine.{Out, Took, handed_parts, stream_of}
use Rattle.device.specs.Answering.{Answered, line_answer, line_swallowed}
use Rattle.device.specs.Receiving.{phase_start, set_up_password, is_led_by}
use Rattle.device.specs.Calls.{longest_reply, reply_room, has_password}
use Rattle.controller.specs.Writing.{command_room, led_by}
use Rattle.controller.specs.Reading.{meaning, LineSays, means_it, erra_said, outcome_alone}
use Rattle.pjlink.specs.Greetings.{Exactly}
use Rattle.demands.specs.Greeted.{greeted_on}
use Rattle.ours.specs.Board.{Board, Lent, Wrote, reply, bytes_written}
use Rattle.demands.specs.Calls.{Call, opens, closes, receives, passes, after}
use Rattle.demands.specs.CallsDone.{OpenedAs, ReceivedAs, Leaves}
use Rattle.demands.specs.Outsider.{unopened, IsNeverMatched, NoSay, HostsAlone}

-- ---- a connection between lines

pub record BetweenLines (phase : ℕ) (d : Device) (p : ℕ) : Type 0 where
  pub legal : is_legal d ≡ true
  pub there : p < places_count
  pub in_phase : (connection_at d p).phase ≡ phase
  pub unmarked : is_raised (connection_at d p).line.overlong ≡ false
  pub none_held : (connection_at d p).line.held ≡ 0

-- open and between lines, the random number kept
abbrev pub open_again : Connection → Connection
open_again c = phase_start c phase_open

-- ---- what is read of the reply to a command

module _ {R : Type 0} (B : Board R) where
  pub record ReadBack (d : R) (p : ℕ) (c : Command) (w : Wrote) (r : Lent R) : Type 0 where
    pub wrote : w.number ≡ 0
    pub number : r.number ≡ 0
    pub taken : r.taken ≡ w.length
    pub read : B.read_reply c (reply r) ≡ meaning (answer_for (B.shows d).settings (B.shows d).own (Ok c))
    pub device : B.shows r.device
        ≡ with_place (B.shows d) (after_request (B.shows d).settings (B.shows d).own (Ok c)) p
        (open_again (connection_at (B.shows d) p))

  -- ---- any line, from any controller: its answer by the tables of RULES, and what it leaves
  pub record AnsweredAs (d : R) (p : ℕ) (bs : List ℕ) (a : Answered) (r : Lent R) : Type 0 where
    pub number : r.number ≡ 0
    pub taken : r.taken ≡ length bs
    pub replied : reply r ≡ a.reply
    pub device : B.shows r.device ≡ with_place (B.shows d) a.own p (open_again (connection_at (B.shows d) p))

  -- ---- the class (RULES, Class 2)

  pub record IsSwallowed (d : R) (p : ℕ) (w : Wrote) (r : Lent R) : Type 0 where
    pub wrote : w.number ≡ 0
    pub left : AnsweredAs d p (bytes_written w) (line_swallowed (B.shows d).own) r

  -- RULES, Class 2: the reader returns what the projector meant, for every command of a class no higher than the
  -- set-up's; a line of a higher one gets no reply and changes nothing but what swallowing a line does
  pub record ByClass (d : R) (p : ℕ) (c : Command) (w : Wrote) (r : Lent R) : Type 0 where
    pub no_higher : command_class c ≤ (B.shows d).settings.class_number → ReadBack d p c w r
    pub higher : (B.shows d).settings.class_number < command_class c → IsSwallowed d p w r

-- a line of more than 135 bytes is swallowed
abbrev pub answer_to : Device → List ℕ → Answered
answer_to d l = if nat_le (length l) command_most then line_answer d.settings d.own l else line_swallowed d.own

-- ---- the digest

abbrev pub digest_for : Device → ℕ → List ℕ
digest_for d p = leading_digest (connection_at d p).random (set_up_password d.settings)

abbrev pub is_led : Device → ℕ → List ℕ → Bool
is_led d p l = is_led_by (connection_at d p).random (set_up_password d.settings) l

-- ---- a stream in cuts

abbrev pub call_on : {R : Type 0} → Board R → List ℕ → ℕ → R → List ℕ → Took R
call_on B m p d bs =
    let r = B.receive d p bs m in
    record { taken = r.taken; state = r.device; reply = reply r }

abbrev pub handed_on : {R : Type 0} → Board R → List ℕ → ℕ → R → List (List ℕ) → Out R
handed_on B m p d ps = handed_parts (call_on B m p) d ps

-- ---- the other places

-- the call c is not at place q: closing and receiving name another place, opening takes another one, the host's calls
-- name none; time passes for every place
abbrev pub Elsewhere : {R : Type 0} → Board R → R → Call → ℕ → Type 0
Elsewhere B d (opens random m) q = q ≡ B.place_opened d random m → ⊥
Elsewhere B d (closes p) q = q ≡ p → ⊥
Elsewhere B d (receives p bs m) q = q ≡ p → ⊥
Elsewhere B d (passes n) q = ⊥
Elsewhere B d c q = Unit {0}

-- what an outsider gets, and leaves as it was
pub record RefusalOnly {R : Type 0} (B : Board R) (d : R) (p : ℕ) (out : Out R) : Type 0 where
  pub refusal : out.reply ≡ erra_line
  pub settings : (B.shows out.state).settings ≡ (B.shows d).settings
  pub own : (B.shows out.state).own ≡ (B.shows d).own
  pub phase : (connection_at (B.shows out.state) p).phase ≡ phase_failed
  pub age : (connection_at (B.shows out.state) p).age ≡ 0
  pub others : (q : ℕ) → (q ≡ p → ⊥) → connection_at (B.shows out.state) q ≡ connection_at (B.shows d) q

-- ---- the demand

pub record SpeaksPjlink {R : Type 0} (B : Board R) : Type 0 where
  -- "with the digest of RFC 1321"
  pub digest : (s : List ℕ) → B.md5 s ≡ md5_of s
  -- "The projector's lines .. are those of PJLink Class 1", and of Class 2 (RULES, Class 2): any line of any
  -- controller, on an open connection and behind the matching digest, is answered as the tables of RULES say
  pub answers : (d : R) (p : ℕ) (l m : List ℕ) → BetweenLines phase_open (B.shows d) p → is_cr_free l ≡ true
      → reply_room ≤ length m
      → let bs = l ++ codes "\r" in AnsweredAs B d p bs (answer_to (B.shows d) l) (B.receive d p bs m)
  pub answers_led : (d : R) (p : ℕ) (l m : List ℕ) → BetweenLines phase_awaiting (B.shows d) p → is_cr_free l ≡ true
      → length l ≤ command_most → reply_room ≤ length m
      → let bs = digest_for (B.shows d) p ++ l ++ codes "\r" in
      AnsweredAs B d p bs (answer_to (B.shows d) l) (B.receive d p bs m)
  -- RULES, Class 2: the longest reply has an input's name, and eight bytes around it; of Class 1 it has 103 (ClassOne)
  pub reply_short : (d : R) (p : ℕ) (bs m : List ℕ) → (B.receive d p bs m).length ≤ longest_reply
  -- "and the controller's reading of them": whatever line comes, what is read was said by it, and what it says is read;
  -- the ERRA line and no other is read as such, and nothing else is read in it
  pub reads_what_is_said : (c : Command) (l : List ℕ) → (B.read_reply c l).outcome ≡ means_it
      → LineSays c l (B.read_reply c l).said
  pub what_is_said_is_read : (c : Command) (l : List ℕ) (m : Said) → LineSays c l m → B.read_reply c l ≡ meaning m
  pub erra_exactly : (c : Command) (l : List ℕ) → ((B.read_reply c l).outcome ≡ erra_said) ↔ (l ≡ erra_line)
  pub erra_means_nothing : (c : Command) → B.read_reply c erra_line ≡ outcome_alone erra_said
  -- "for every command our writer makes": its line, led by the digest where one was asked for
  pub writes : (c : Command) (secured : Bool) (random : ℕ) (password m : List ℕ)
      → let w = B.write c secured random password m in
      w.number ≡ 0 → bytes_written w ≡ led_by secured random password ++ command_line c
  -- "On an open connection between lines, for every command our writer makes without a digest and in every legal state,
  -- what our reader, told the command, takes from the reply is what the projector meant"; RULES, Class 2: by its class
  pub reads_back : (d : R) (p : ℕ) (c : Command) (random : ℕ) (password paper m : List ℕ)
      → BetweenLines phase_open (B.shows d) p → is_command c ≡ true → command_room ≤ length paper → reply_room
      ≤ length m
      → let w = B.write c false random password paper in ByClass B d p c w (B.receive d p (bytes_written w) m)
  -- RULES, What the product holds: the same holds on an awaiting connection between lines, for a command led by the
  -- matching digest
  pub reads_back_secured : (d : R) (p : ℕ) (c : Command) (paper m : List ℕ)
      → BetweenLines phase_awaiting (B.shows d) p → is_command c ≡ true → command_room ≤ length paper → reply_room
      ≤ length m
      → let w = B.write c true (connection_at (B.shows d) p).random (set_up_password (B.shows d).settings) paper in
      ByClass B d p c w (B.receive d p (bytes_written w) m)
  -- RULES, Texts: a name that the projector accepts is one that our reader accepts
  pub names_read : (w : Wanted) → (B.set_up w).number ≡ 0
      → B.read_reply (Query Name) (codes "%1NAME=" ++ w.name ++ codes "\r") ≡ meaning (text_is w.name)
  -- "On a secured connection a first line without the matching digest yields the refusal line only; power, input, mutes
  -- and lamps stay": whatever follows it, and however all of it is cut
  pub outsider_refused : (d : R) (p : ℕ) (l more m : List ℕ) (ps : List (List ℕ))
      → BetweenLines phase_awaiting (B.shows d) p → is_cr_free l ≡ true → is_led (B.shows d) p l ≡ false → reply_room
      ≤ length m
      → stream_of ps ≡ l ++ codes "\r" ++ more
      → RefusalOnly B d p (handed_on B m p d ps)
  -- and over any calls, whoever else makes them: at a place that starts closed on a device with a password, if no first
  -- line of a connection there is led by the digest of its opening's number
  pub outsider_has_no_say : (d : R) (p : ℕ) (cs : List Call) → is_legal (B.shows d) ≡ true
      → has_password (B.shows d).settings ≡ true → is_closed (connection_at (B.shows d) p) ≡ true
      → IsNeverMatched B p (set_up_password (B.shows d).settings) d unopened cs
      → NoSay B p d unopened cs
  -- and if that is so of every place, the own part is what time and the host's calls make of it
  pub outsiders_have_no_say : (d : R) (cs : List Call) → is_legal (B.shows d) ≡ true
      → has_password (B.shows d).settings ≡ true
      → ((p : ℕ) → p < places_count → is_closed (connection_at (B.shows d) p) ≡ true)
      → ((p : ℕ) → p < places_count → IsNeverMatched B p (set_up_password (B.shows d).settings) d unopened cs)
      → HostsAlone B d cs
  -- RULES, The legal record, Connection and Time: what the other calls leave, if they are accepted
  pub set_up_shows : (w : Wanted) → Leaves B (B.set_up w) (start_device w)
  pub opens : (d : R) (random : ℕ) (m : List ℕ) → (B.opening d random m).number ≡ 0
      → OpenedAs B d random (B.place_opened d random m) (B.opening d random m)
  -- any bytes, a part of a line, a line or more, whoever sends them
  pub receives : (d : R) (p : ℕ) (bs m : List ℕ) → (B.receive d p bs m).number ≡ 0
      → ReceivedAs B d p bs (B.receive d p bs m)
  pub closes : (d : R) (p : ℕ)
      → Leaves B (B.closing d p) (with_place (B.shows d) (B.shows d).own p closed)
  pub marks : (d : R) (fault : Bool)
      → Leaves B (B.set_fault d fault) (with_own (B.shows d) (with_fault (B.shows d).own (flag_of fault)))
  pub reports : (d : R) (errors : List ℕ)
      → Leaves B (B.set_errors d errors) (with_own (B.shows d) (with_errors (B.shows d).own errors))
  -- RULES, Lamps: the lamp's mark, and nothing else
  pub enables : (d : R) (lamp : ℕ) (mark : Bool)
      → Leaves B (B.set_mark d lamp mark)
      (with_own (B.shows d) (with_marks (B.shows d).own (set (B.shows d).own.enabled lamp (flag_of mark))))
  -- what the greeting reader reads from the reply of an opening is what the opening did, if some place is closed; it
  -- reads no other line as a greeting
  pub greets_back : (d : R) (random : ℕ) (m : List ℕ) → is_legal (B.shows d) ≡ true
      → (q : ℕ) → q < places_count → is_closed (connection_at (B.shows d) q) ≡ true → reply_room ≤ length m
      → random < 2 ^ 32
      → let r = B.opening d random m in
      let p = B.place_opened d random m in
      (r.number ≡ 0) × (B.read_greeting (reply r) ≡ greeted_on (connection_at (B.shows r.device) p))
  pub greeting_is : (l : List ℕ) → Exactly l (B.read_greeting l)
  -- RULES, Connection: passed on until all is taken, with no time between, a stream gives the same reply bytes and end
  -- state however it is cut
  pub same_however_cut : (d : R) (p : ℕ) (m : List ℕ) (ps qs : List (List ℕ)) → is_legal (B.shows d) ≡ true
      → p < places_count → is_closed (connection_at (B.shows d) p) ≡ false → reply_room ≤ length m
      → stream_of ps ≡ stream_of qs
      → handed_on B m p d ps ≡ handed_on B m p d qs
  -- RULES, Places: one place's bytes never touch another's connection
  pub others_untouched : (d : R) (c : Call) (q : ℕ) → Elsewhere B d c q
      → connection_at (B.shows (after B d c)) q ≡ connection_at (B.shows d) q
