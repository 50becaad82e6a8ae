-- The device of "Lines that settle it" (RULES, Commands), in warm-up, for worked seconds (RULES, Time).
--   fresh_device           W = 20, C = 60, one lamp at 0 s, input 11: just set up
--   warming_device         the same, power-on just answered: W seconds left
--   passed_figures n       what n seconds give of it: the number, the power, the seconds left, the lamp's seconds
-- Assumes nothing.
use Rattle.std.specs.Prelude.{ℕ, List, [], ◌∷◌, slice_index_or, codes}
use Rattle.text.specs.Outcomes.{call_number}
use Rattle.record.specs.Limits.{warming}
use Rattle.record.specs.Wanted.{wanted_of}
use Rattle.record.specs.Record.{start_device}
use Rattle.record.specs.Updates.{with_own, with_power_left}
use Rattle.record.specs.Refusals.{refusal_number}
use Rattle.record.specs.declared.types.Device.{Device}
use Rattle.clock.specs.Passing.{time_passed}

abbrev pub fresh_device : Device
fresh_device = start_device (wanted_of [] [] [] [] [] (codes "11") (0 ∷ []) 20 60)

abbrev pub warming_device : Device
warming_device = with_own fresh_device (with_power_left fresh_device.own warming 20)

abbrev pub passed_figures : ℕ → List ℕ
passed_figures n =
    let r = time_passed warming_device n in
    let o = r.leaves.own in
    call_number refusal_number r ∷ o.power ∷ o.left ∷ slice_index_or o.lamps 0 0 ∷ []
