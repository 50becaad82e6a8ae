-- Our board with one call replaced, for the wrong boards: each is ours but for what its name says.
--   ours_but ..         our board with these calls instead of its own
--   but_set_up f, ..    our board with f instead of that one call
-- Assumes nothing.
use Rattle.std.specs.Prelude.{ℕ, Bool, List}
use Rattle.pjlink.specs.declared.command.Command.{Command}
use Rattle.record.specs.Wanted.{Wanted}
use Rattle.record.specs.declared.types.Device.{Device}
use Rattle.controller.specs.Reading.{ReadAs}
use Rattle.ours.specs.Board.{Board, Given, Lent, ours}

module _ (set_up : Wanted → Given Device) (opening : Device → ℕ → List ℕ → Lent Device)
    (closing : Device → ℕ → Given Device) (receive : Device → ℕ → List ℕ → List ℕ → Lent Device)
    (pass : Device → ℕ → Given Device) (set_fault : Device → Bool → Given Device)
    (set_errors : Device → List ℕ → Given Device) (read_reply : Command → List ℕ → ReadAs) where
  abbrev pub ours_but : Board Device
  ours_but = record {
    shows = λ d. d;
    set_up = set_up;
    opening = opening;
    place_opened = ours.place_opened;
    closing = closing;
    receive = receive;
    pass = pass;
    set_fault = set_fault;
    set_errors = set_errors;
    set_mark = ours.set_mark;
    store = ours.store;
    load = ours.load;
    md5 = ours.md5;
    write = ours.write;
    read_reply = read_reply;
    read_greeting = ours.read_greeting;
  }

abbrev pub but_set_up : (Wanted → Given Device) → Board Device
but_set_up f =
    ours_but f ours.opening ours.closing ours.receive ours.pass ours.set_fault ours.set_errors
    ours.read_reply

abbrev pub but_opening : (Device → ℕ → List ℕ → Lent Device) → Board Device
but_opening f =
    ours_but ours.set_up f ours.closing ours.receive ours.pass ours.set_fault ours.set_errors
    ours.read_reply

abbrev pub but_closing : (Device → ℕ → Given Device) → Board Device
but_closing f =
    ours_but ours.set_up ours.opening f ours.receive ours.pass ours.set_fault ours.set_errors
    ours.read_reply

abbrev pub but_receive : (Device → ℕ → List ℕ → List ℕ → Lent Device) → Board Device
but_receive f =
    ours_but ours.set_up ours.opening ours.closing f ours.pass ours.set_fault ours.set_errors
    ours.read_reply

abbrev pub but_pass : (Device → ℕ → Given Device) → Board Device
but_pass f =
    ours_but ours.set_up ours.opening ours.closing ours.receive f ours.set_fault ours.set_errors
    ours.read_reply

abbrev pub but_fault : (Device → Bool → Given Device) → Board Device
but_fault f =
    ours_but ours.set_up ours.opening ours.closing ours.receive ours.pass f ours.set_errors
    ours.read_reply

abbrev pub but_errors : (Device → List ℕ → Given Device) → Board Device
but_errors f =
    ours_but ours.set_up ours.opening ours.closing ours.receive ours.pass ours.set_fault f
    ours.read_reply

abbrev pub but_reader : (Command → List ℕ → ReadAs) → Board Device
but_reader f =
    ours_but ours.set_up ours.opening ours.closing ours.receive ours.pass ours.set_fault
    ours.set_errors f
