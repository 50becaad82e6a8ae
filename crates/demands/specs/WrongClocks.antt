-- Wrong boards against demand 3 (RULES, What the product holds and Readings that look right). That each violates it is
-- proved in proofs/WrongBoardsFall.antt.
-- Assumes nothing.
use Rattle.std.specs.Prelude.{ℕ, ◌*◌, ◌/◌, Bool, false, not, ◌&&◌, ◌||◌, List, map, if◌then◌else◌}
use Rattle.record.specs.Limits.{is_lit}
use Rattle.record.specs.Updates.{with_own, with_seconds}
use Rattle.record.specs.declared.types.Device.{Device}
use Rattle.ours.specs.Board.{Board, Given, Lent, ours}
use Rattle.demands.specs.OursBut.{but_receive, but_pass}

abbrev pub still_clock : Board Device
still_clock = but_pass (λ d n. record { number = 0; device = d })

abbrev having_lamps : Device → List ℕ → Device
having_lamps d lamps = with_own d (with_seconds d.own lamps)

abbrev goes_dark : Device → Device → Bool
goes_dark before now = is_lit before.own.power && not (is_lit now.own.power)

-- "dropping the part-hour at power-off"
abbrev whole_hours : Device → Device → Device
whole_hours before now =
    if goes_dark before now then having_lamps now (map (λ s. s / 3600 * 3600) now.own.lamps) else now

abbrev pub drops_part_hour : Board Device
drops_part_hour = but_receive (λ d p bs m.
    let r = ours.receive d p bs m in
    record {
      number = r.number;
      taken = r.taken;
      length = r.length;
      memory = r.memory;
      device = whole_hours d r.device;
    })

-- counts the first session and not the later ones: beside the record it remembers that the power went dark once
abbrev Marked : Type 0
Marked = Device × Bool

abbrev session_on : Marked → Device → Marked
session_on (before, is_over) now =
    (if is_over then having_lamps now before.own.lamps else now, is_over || goes_dark before now)

abbrev with_session : Marked → Given Device → Given Marked
with_session b r = record { number = r.number; device = session_on b r.device }

abbrev marked_lent : Marked → Lent Device → Lent Marked
marked_lent b r = record {
  number = r.number;
  taken = r.taken;
  length = r.length;
  memory = r.memory;
  device = session_on b r.device;
}

abbrev pub first_only : Board Marked
first_only = record {
  shows = λ b. b.0;
  set_up = λ w. record { number = (ours.set_up w).number; device = ((ours.set_up w).device, false) };
  opening = λ b random m. marked_lent b (ours.opening b.0 random m);
  place_opened = λ b random m. ours.place_opened b.0 random m;
  closing = λ b p. with_session b (ours.closing b.0 p);
  receive = λ b p bs m. marked_lent b (ours.receive b.0 p bs m);
  pass = λ b n. with_session b (ours.pass b.0 n);
  set_fault = λ b mark. with_session b (ours.set_fault b.0 mark);
  set_errors = λ b digits. with_session b (ours.set_errors b.0 digits);
  set_mark = λ b lamp mark. with_session b (ours.set_mark b.0 lamp mark);
  store = λ b m. ours.store b.0 m;
  load = λ s. record { number = (ours.load s).number; device = ((ours.load s).device, false) };
  md5 = ours.md5;
  write = ours.write;
  read_reply = ours.read_reply;
  read_greeting = ours.read_greeting;
}
