-- One name that opens the definitions of every crate below, for computing on concrete records only (RULES,
-- Commands). The digest stays shut: no line is computed on a secured connection.
-- Assumes nothing.
use Rattle.pjlink.specs.Computing.{computing as pjlink}
use Rattle.record.specs.Computing.{computing as records}
use Rattle.meaning.specs.Computing.{computing as meaning}
use Rattle.stream.specs.Computing.{computing as stream}
use Rattle.device.specs.Computing.{computing as device}
use Rattle.controller.specs.Computing.{computing as controller}
use Rattle.codes.specs.Computing.{computing as codes}
use Rattle.panel.specs.Computing.{computing as panel}

unfoldable pub computing : Unit {0}
unfolding pjlink records meaning stream device controller codes panel
computing = tt
