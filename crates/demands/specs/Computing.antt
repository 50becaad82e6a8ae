-- One name that opens the definitions of every crate below, for computing on concrete records only (RULES, Commands).
-- It does not open the digest: no line is computed on a secured connection.
-- Assumes nothing.
use Rattle.numbers.specs.Computing.{computing as numbers}
use Rattle.pjlink.specs.Computing.{computing as pjlink}
use Rattle.record.specs.Computing.{computing as records}
use Rattle.stored.specs.Computing.{computing as stored}
use Rattle.clock.specs.Computing.{computing as clock}
use Rattle.meaning.specs.Computing.{computing as meaning}
use Rattle.stream.specs.Computing.{computing as stream}
use Rattle.device.specs.Computing.{computing as device}
use Rattle.controller.specs.Computing.{computing as controller}
use Rattle.demands.specs.History.{power_set}

unfoldable pub computing : Unit {0}
unfolding
    numbers pjlink records stored clock meaning stream device controller power_set
computing = tt
