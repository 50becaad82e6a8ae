-- One name that opens this crate's definitions, for computing on concrete logs and forms only (RULES, Floor log).
-- Assumes nothing.
use Rattle.textio.specs.Lines.{lines_ended, cut_end, lines_in}
use Rattle.textio.specs.Forms.{form_filled}

unfoldable pub computing : Unit {0}
unfolding lines_ended cut_end lines_in form_filled
computing = tt
