-- Wrong boards against demand 2, as to lines, their cuts and their reading (RULES, What the product holds and "Readings
-- that look right"). That each violates it is proved in proofs/WrongBoardsFall.antt.
-- Assumes nothing.
use Rattle.std.specs.Prelude.{ℕ, suc, Bool, not, ◌&&◌, List, [], ◌∷◌, ◌++◌, map, length, take, drop, ◌==◌, codes}
use Rattle.std.specs.Prelude.{if◌then◌else◌}
use Rattle.text.specs.Flags.{is_raised, flag_of}
use Rattle.text.specs.Outcomes.{served_as, refused_as}
use Rattle.text.specs.Scans.{is_same_by, itself}
use Rattle.words.specs.Bytes.{upper_of}
use Rattle.words.specs.declared.power.PowerStatus.TheVariants.{Off}
use Rattle.pjlink.specs.Forms.{head_body, erra_line}
use Rattle.pjlink.specs.declared.command.Command.{Command}
use Rattle.pjlink.specs.declared.body.Body.TheVariants.{Name}
use Rattle.pjlink.specs.Bodies.{is_body}
use Rattle.pjlink.specs.Said.{text_is, power_is}
use Rattle.record.specs.Limits.{phase_open}
use Rattle.record.specs.Updates.{with_line, with_own, with_mutes}
use Rattle.record.specs.Record.{blank}
use Rattle.record.specs.declared.refusal.Refusal.TheVariants.{NotLegal}
use Rattle.record.specs.declared.types.Own.{Own}
use Rattle.record.specs.declared.types.Device.{Device}
use Rattle.stream.specs.Collecting.{empty_line}
use Rattle.record.specs.Places.{connection_at, with_place}
use Rattle.controller.specs.Reading.{ReadAs, meaning, outcome_alone, read_reply, ReadingOutcome, means_it, erra_said}
use Rattle.controller.specs.Reading.{not_a_line, other_command, disallowed}
use Rattle.ours.specs.Board.{Board, Given, Lent, ours, received_in, opened_in}
use Rattle.demands.specs.OursBut.{but_receive, but_reader}

-- takes every byte, and gives this reply to them
abbrev always_replying : (List ℕ → List ℕ) → Board Device
always_replying answer =
    but_receive (λ d p bs m. received_in (served_as (length bs) (answer bs) d) m)

abbrev pub drops_all : Board Device
drops_all = always_replying (λ bs. [])

-- with the body as received
abbrev pub ok_to_all : Board Device
ok_to_all = always_replying (λ bs. codes "%1" ++ take 4 (drop 2 bs) ++ codes "=OK\r")

abbrev refused_given : ℕ → Device → Given Device
refused_given n d = record { number = n; device = d }

abbrev pub refuses_all : Board Device
refuses_all = record {
  shows = λ d. d;
  set_up = λ w. refused_given 3 blank;
  opening = λ d random m. opened_in (refused_as d NotLegal) m;
  place_opened = λ d random m. 0;
  closing = λ d p. refused_given 1 d;
  receive = λ d p bs m. received_in (refused_as d NotLegal) m;
  pass = λ d n. refused_given 1 d;
  set_fault = λ d mark. refused_given 1 d;
  set_errors = λ d digits. refused_given 1 d;
  set_mark = λ d lamp mark. refused_given 1 d;
  store = λ d m. record { number = 1; length = 0; memory = m };
  load = λ s. refused_given 23 blank;
  md5 = ours.md5;
  write = ours.write;
  read_reply = ours.read_reply;
  read_greeting = ours.read_greeting;
}

-- our receiving, with its result changed
abbrev retelling_by : (Lent Device → Lent Device) → Board Device
retelling_by change = but_receive (λ d p bs m. change (ours.receive d p bs m))

abbrev pub made_up_length : Board Device
made_up_length = retelling_by (λ r. record {
  number = r.number;
  taken = r.taken;
  length = suc r.length;
  memory = r.memory;
  device = r.device;
})

abbrev pub made_up_taken : Board Device
made_up_taken = retelling_by (λ r. record {
  number = r.number;
  taken = suc r.taken;
  length = r.length;
  memory = r.memory;
  device = r.device;
})

-- "Upper-casing the echoed body"
abbrev pub upper_cases : Board Device
upper_cases = retelling_by (λ r. record {
  number = r.number;
  taken = r.taken;
  length = r.length;
  memory = map upper_of r.memory;
  device = r.device;
})

-- forgets the collected bytes if it is given none
abbrev forgetting_at : Device → ℕ → List ℕ → List ℕ → Lent Device
forgetting_at d p [] m =
    let none = with_place d d.own p (with_line (connection_at d p) empty_line) in
    received_in (served_as 0 [] none) m
forgetting_at d p (b ∷ bs) m = ours.receive d p (b ∷ bs) m

abbrev pub forgets_at_nothing : Board Device
forgets_at_nothing = but_receive forgetting_at

-- reads a NAME reply in other letters than our projector's as the empty text
abbrev empty_reading : ReadingOutcome → ReadAs
empty_reading means_it = meaning (text_is [])
empty_reading erra_said = outcome_alone erra_said
empty_reading not_a_line = outcome_alone not_a_line
empty_reading other_command = outcome_alone other_command
empty_reading disallowed = outcome_alone disallowed

abbrev reads_our_names : Command → List ℕ → ReadAs
reads_our_names c l =
    if is_body 1 (head_body l) Name && not (is_same_by itself (head_body l) (codes "NAME"))
    then empty_reading (read_reply c l).outcome else read_reply c l

abbrev pub others_nameless : Board Device
others_nameless = but_reader reads_our_names

-- reads a power off from the ERRA line
abbrev reads_off_at_erra_line : Command → List ℕ → ReadAs
reads_off_at_erra_line c l =
    if is_same_by itself l erra_line then record { outcome = erra_said; said = power_is Off } else read_reply c l

abbrev pub off_at_erra : Board Device
off_at_erra = but_reader reads_off_at_erra_line

-- the connection at place p is open, and swallows an overlong line
abbrev swallows_at : Device → ℕ → Bool
swallows_at d p = (connection_at d p).phase == phase_open && is_raised (connection_at d p).line.overlong

abbrev are_apart : Bool → Bool → Bool
are_apart a b = if a then not b else b

abbrev turned_if : Bool → Own → Own
turned_if t o = with_mutes o (flag_of (are_apart t (is_raised o.video_muted))) o.audio_muted

-- the picture goes dark when it begins to swallow a line, and comes back at that line's CR, but not when the line's
-- connection closes
abbrev pub darkens_swallowing : Board Device
darkens_swallowing = but_receive (λ d p bs m.
    let r = ours.receive d p bs m in
    let turned = are_apart (swallows_at d p) (swallows_at r.device p) in
    record {
      number = r.number;
      taken = r.taken;
      length = r.length;
      memory = r.memory;
      device = with_own r.device (turned_if turned r.device.own);
    })
