-- Wrong boards against demand 2, as to who is let in and what the other calls do. That each violates it is proved in
-- proofs/WrongBoardsFall.antt.
--   secured_sample    the sample set-up, with the password of the specification's example
-- Assumes nothing.
use Rattle.std.specs.Prelude.{ℕ, [], length, if◌then◌else◌, ◌==◌, codes, Result, Ok, Err}
use Rattle.text.specs.Outcomes.{CallResult, served_as, refused_as}
use Rattle.pjlink.specs.Forms.{greeting_open}
use Rattle.record.specs.Limits.{phase_awaiting, phase_open, phase_failed}
use Rattle.record.specs.Wanted.{Wanted, with_password}
use Rattle.record.specs.declared.refusal.Refusal.{Refusal}
use Rattle.record.specs.declared.types.Device.{Device}
use Rattle.record.specs.Places.{connection_at, with_place}
use Rattle.device.specs.Receiving.{phase_start}
use Rattle.device.specs.Calls.{opened_by}
use Rattle.ours.specs.Board.{Board, ours, opened_in}
use Rattle.demands.specs.Sample.{sample}
use Rattle.demands.specs.OursBut.{but_set_up, but_opening, but_closing, but_pass, but_fault, but_errors}

abbrev pub secured_sample : Wanted
secured_sample = with_password (codes "JBMIAProjectorLink") sample

abbrev pub forgets_password : Board Device
forgets_password = but_set_up (λ w. ours.set_up (with_password [] w))

-- the device with the connection at place p open, whatever it was
abbrev let_in : Device → ℕ → Device
let_in d p = with_place d d.own p (phase_start (connection_at d p) phase_open)

-- `PJLINK 0`, password or not
abbrev open_to_all : Result ℕ Refusal → Device → CallResult Refusal ℕ Device
open_to_all (Ok p) d = served_as p greeting_open (let_in d p)
open_to_all (Err e) d = refused_as d e

abbrev pub ignores_password : Board Device
ignores_password = but_opening (λ d random m.
    let c = opened_by d random (length m) in
    opened_in (open_to_all c.says c.leaves) m)

abbrev pub greets_with_zero : Board Device
greets_with_zero = but_opening (λ d random m. ours.opening d 0 m)

-- letting time pass opens the connection at place 0 if it is in this phase
abbrev time_lets_in : ℕ → Board Device
time_lets_in phase = but_pass (λ d n.
    let r = ours.pass d n in
    record {
      number = r.number;
      device = if (connection_at r.device 0).phase == phase then let_in r.device 0 else r.device;
    })

abbrev pub time_opens : Board Device
time_opens = time_lets_in phase_awaiting

-- a failed connection answers commands once a second has passed
abbrev pub failed_answers : Board Device
failed_answers = time_lets_in phase_failed

abbrev pub never_closes : Board Device
never_closes = but_closing (λ d p. record { number = (ours.closing d p).number; device = d })

abbrev pub hides_faults : Board Device
hides_faults = but_fault (λ d mark. record { number = (ours.set_fault d mark).number; device = d })

abbrev pub hides_errors : Board Device
hides_errors = but_errors (λ d errors. record { number = (ours.set_errors d errors).number; device = d })

-- an opening reports a byte as taken
abbrev pub takes_at_opening : Board Device
takes_at_opening = but_opening (λ d random m.
    let r = ours.opening d random m in
    record {
      number = r.number;
      taken = if r.number == 0 then 1 else r.taken;
      length = r.length;
      memory = r.memory;
      device = r.device;
    })
