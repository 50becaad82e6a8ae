-- What is printed for the logs of specs/Settled.antt is computed.
-- Assumes nothing.
use Rattle.std.proofs.Common.{refl}
use Rattle.numbers.specs.Computing.{computing as numbers}
use Rattle.digest.specs.Computing.{computing as digest}
use Rattle.textio.specs.Computing.{computing as textio}
use Rattle.pjlink.specs.Computing.{computing as pjlink}
use Rattle.record.specs.Computing.{computing as records}
use Rattle.clock.specs.Computing.{computing as clock}
use Rattle.meaning.specs.Computing.{computing as meaning}
use Rattle.stream.specs.Computing.{computing as stream}
use Rattle.device.specs.Computing.{computing as device}
use Rattle.floorlog.specs.Settled.{ArePrinted, log_rows}
use Rattle.floorlog.specs.Computing.{computing}

pub logs_printed : ArePrinted log_rows
unfolding computing numbers digest textio pjlink records clock meaning stream device
logs_printed = (refl, (refl, (refl, (refl, (refl, tt)))))
