-- Wrong boards against RULES, Places: on each an outsider has a say beyond its own place. That each violates `Unheard`
-- is proved in proofs/WrongBoardsFall.antt.
--   fails_now d p e      the connection at place p was awaiting in d, and has failed in e
--   on_failure change    our board, but when a first line does not match, the record is changed so
-- Assumes nothing.
use Rattle.std.specs.Prelude.{ℕ, ◌+◌, min, Bool, ◌&&◌, ◌||◌, List, [], set, length, if◌then◌else◌, slice_index_or, ◌==◌}
use Rattle.text.specs.Words.{over}
use Rattle.pjlink.specs.Forms.{erra_line}
use Rattle.record.specs.Limits.{phase_awaiting, phase_failed, places_count, error_most}
use Rattle.record.specs.Record.{closed}
use Rattle.record.specs.Updates.{with_own, with_errors}
use Rattle.record.specs.declared.types.Device.{Device}
use Rattle.record.specs.Places.{connection_at, with_place}
use Rattle.device.specs.Calls.{is_no_place}
use Rattle.ours.specs.Board.{Board, Given, Lent, ours}
use Rattle.demands.specs.OursBut.{but_receive}

abbrev fails_now : Device → ℕ → Device → Bool
fails_now d p e = (connection_at d p).phase == phase_awaiting && (connection_at e p).phase == phase_failed

abbrev on_failure : (Device → ℕ → Device) → Board Device
on_failure change = but_receive (λ d p bs m.
    let r = ours.receive d p bs m in
    record {
      number = r.number;
      taken = r.taken;
      length = r.length;
      memory = r.memory;
      device = if fails_now d p r.device then change r.device p else r.device;
    })

-- closes the next place too
abbrev pub closes_next : Board Device
closes_next = on_failure (λ d p. with_place d d.own (p + 1) closed)

-- counts failed log-ins in the last error digit
abbrev pub counts_failures : Board Device
counts_failures = on_failure (λ d p.
    let errors = d.own.errors in
    with_own d (with_errors d.own (set errors 5 (min error_most (slice_index_or errors 5 0 + 1)))))

-- the refusal line goes out at another place, the next that receives: beside the record the board remembers the place
-- whose refusal is not sent yet, or the number of places if there is none
abbrev Owing : Type 0
Owing = Device × ℕ

abbrev still_owing : Owing → Given Device → Given Owing
still_owing b r = record { number = r.number; device = (r.device, b.1) }

abbrev owing_then : Lent Device → ℕ → Lent Owing
owing_then r place = record {
  number = r.number;
  taken = r.taken;
  length = r.length;
  memory = r.memory;
  device = (r.device, place);
}

-- with that line as the reply
abbrev replying_with : Lent Device → List ℕ → List ℕ → Lent Device
replying_with r line m = record {
  number = r.number;
  taken = r.taken;
  length = length line;
  memory = over line m;
  device = r.device;
}

abbrev answered_elsewhere : Owing → ℕ → List ℕ → List ℕ → Lent Owing
answered_elsewhere b p bs m =
    let r = ours.receive b.0 p bs m in
    if fails_now b.0 p r.device then owing_then (replying_with r [] m) p
    else if is_no_place b.1 || b.1 == p then owing_then r b.1
    else owing_then (replying_with r erra_line m) places_count

abbrev pub refuses_elsewhere : Board Owing
refuses_elsewhere = record {
  shows = λ b. b.0;
  set_up = λ w. record { number = (ours.set_up w).number; device = ((ours.set_up w).device, places_count) };
  opening = λ b random m. owing_then (ours.opening b.0 random m) b.1;
  place_opened = λ b random m. ours.place_opened b.0 random m;
  closing = λ b p. still_owing b (ours.closing b.0 p);
  receive = answered_elsewhere;
  pass = λ b n. still_owing b (ours.pass b.0 n);
  set_fault = λ b mark. still_owing b (ours.set_fault b.0 mark);
  set_errors = λ b digits. still_owing b (ours.set_errors b.0 digits);
  set_mark = λ b lamp mark. still_owing b (ours.set_mark b.0 lamp mark);
  store = λ b m. ours.store b.0 m;
  load = λ s. record { number = (ours.load s).number; device = ((ours.load s).device, places_count) };
  md5 = ours.md5;
  write = ours.write;
  read_reply = ours.read_reply;
  read_greeting = ours.read_greeting;
}
