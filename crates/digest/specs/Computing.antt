-- One name that opens the hexadecimal digits, for computing on concrete lines only. The digest itself stays shut.
-- Assumes nothing.
use Rattle.digest.specs.Hex.{hex_digit, hex_worth, hex_of}

unfoldable pub computing : Unit {0}
unfolding hex_digit hex_worth hex_of
computing = tt
