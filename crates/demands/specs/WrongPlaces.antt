-- Wrong boards with four places (RULES, Places). That each violates a demand or `Interleaved` is proved in
-- proofs/WrongBoardsFall.antt.
--   besides X x receive     our board, with an X beside the record, x at first, that only receiving sees and changes
-- Assumes nothing.
use Rattle.std.specs.Prelude.{ℕ, List, if◌then◌else◌, ◌==◌}
use Rattle.record.specs.Limits.{off}
use Rattle.record.specs.Updates.{with_own, with_power_left, with_line}
use Rattle.record.specs.Places.{connection_at, with_place}
use Rattle.record.specs.declared.types.CollectedLine.{CollectedLine}
use Rattle.record.specs.declared.types.Device.{Device}
use Rattle.stream.specs.Collecting.{empty_line}
use Rattle.ours.specs.Board.{Board, Given, Lent, ours}

module _ {X : Type 0} where
  abbrev given_beside : X → Given Device → Given (Device × X)
  given_beside x r = record { number = r.number; device = (r.device, x) }

  abbrev lent_beside : X → Lent Device → Lent (Device × X)
  lent_beside x r = record {
    number = r.number;
    taken = r.taken;
    length = r.length;
    memory = r.memory;
    device = (r.device, x);
  }

module _ (X : Type 0) (x : X) (receive : Device × X → ℕ → List ℕ → List ℕ → Lent (Device × X)) where
  abbrev besides : Board (Device × X)
  besides = record {
    shows = λ b. b.0;
    set_up = λ w. given_beside x (ours.set_up w);
    opening = λ b random m. lent_beside b.1 (ours.opening b.0 random m);
    place_opened = λ b random m. ours.place_opened b.0 random m;
    closing = λ b p. given_beside b.1 (ours.closing b.0 p);
    receive = receive;
    pass = λ b n. given_beside b.1 (ours.pass b.0 n);
    set_fault = λ b mark. given_beside b.1 (ours.set_fault b.0 mark);
    set_errors = λ b digits. given_beside b.1 (ours.set_errors b.0 digits);
    set_mark = λ b lamp mark. given_beside b.1 (ours.set_mark b.0 lamp mark);
    store = λ b m. ours.store b.0 m;
    load = λ s. given_beside x (ours.load s);
    md5 = ours.md5;
    write = ours.write;
    read_reply = ours.read_reply;
    read_greeting = ours.read_greeting;
  }

-- a power set is forgotten as soon as another place speaks than spoke last: the lamps are dark from then on
abbrev power_forgotten : Device → Device
power_forgotten d = with_own d (with_power_left d.own off 0)

abbrev pub forgets_others_power : Board (Device × ℕ)
forgets_others_power = besides ℕ 0 (λ b p bs m.
    lent_beside p (ours.receive (if p == b.1 then b.0 else power_forgotten b.0) p bs m))

-- every place's bytes are collected in one line
abbrev pub one_line_for_all : Board (Device × CollectedLine)
one_line_for_all = besides CollectedLine empty_line (λ b p bs m.
    let d = b.0 in
    let r = ours.receive (with_place d d.own p (with_line (connection_at d p) b.1)) p bs m in
    lent_beside (connection_at r.device p).line r)
