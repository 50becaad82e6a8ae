-- Wrong boards against demand 3 with marks (RULES, Lamps). That each violates it is proved in
-- proofs/WrongBoardsFall.antt.
--   two_lamps     the sample set-up with two lamps
--   one_rests     the second lamp's mark is cleared before the lamps burn for 100 seconds
-- Assumes nothing.
use Rattle.std.specs.Prelude.{ℕ, false, ◌&&◌, List, [], ◌∷◌, set, if◌then◌else◌, ◌==◌, codes}
use Rattle.record.specs.Limits.{off, warming}
use Rattle.record.specs.Wanted.{Wanted, wanted_of}
use Rattle.record.specs.Record.{all_marks}
use Rattle.record.specs.Updates.{with_own, with_marks}
use Rattle.record.specs.declared.types.Device.{Device}
use Rattle.ours.specs.Board.{Board, ours}
use Rattle.demands.specs.Calls.{Call, opens, passes, enables}
use Rattle.demands.specs.Sample.{memory, says}
use Rattle.demands.specs.OursBut.{but_receive, but_pass}

abbrev pub two_lamps : Wanted
two_lamps = wanted_of [] [] [] [] [] (codes "11") (0 ∷ 0 ∷ []) 20 60

abbrev pub one_rests : List Call
one_rests = opens 0 memory ∷ enables 1 false ∷ says "%1POWR 1" ∷ passes 100 ∷ []

abbrev having_marks : Device → List ℕ → Device
having_marks d ms = with_own d (with_marks d.own ms)

-- time passes with these marks instead of the device's own, which are put back afterwards
abbrev passing_with : (Device → List ℕ) → Board Device
passing_with marks = but_pass (λ d n.
    let r = ours.pass (having_marks d (marks d)) n in
    record { number = r.number; device = having_marks r.device d.own.enabled })

abbrev pub burns_all_lamps : Board Device
burns_all_lamps = passing_with (λ d. all_marks d.settings.lamp_count)

-- the second lamp burns, whatever its mark
abbrev pub counts_disabled : Board Device
counts_disabled = passing_with (λ d. set d.own.enabled 1 1)

-- when the lamps are switched on, each is enabled again
abbrev switched_on : Device → Device → Device
switched_on before now =
    if before.own.power == off && now.own.power == warming
    then having_marks now (all_marks now.settings.lamp_count) else now

abbrev pub forgets_marks : Board Device
forgets_marks = but_receive (λ d p bs m.
    let r = ours.receive d p bs m in
    record {
      number = r.number;
      taken = r.taken;
      length = r.length;
      memory = r.memory;
      device = switched_on d r.device;
    })
