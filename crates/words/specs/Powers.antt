-- Values of one byte: the power status, and what is on or off (RULES, Commands; PJLink 1.04, 4.2; RULES, Class 2).
--   power_code p      its character: 0 off, 1 on, 2 cooling, 3 warm-up, whatever hex PJLink's text prints for the last
--                     two
--   power_text p      the text of that character; power_read reads it
--   switch_code on    the character of a switch: 1 on, 0 off; switch_text on writes it, and switch_read reads it
-- Assumes nothing.
use Rattle.std.specs.Prelude.{ℕ, Bool, true, false, List, [], ◌∷◌, Option}
use Prim.Native.Char.{code}
use Rattle.words.specs.Codec.{first_named, letter}
use Rattle.words.specs.declared.power.PowerStatus.{PowerStatus}
use Rattle.words.specs.declared.power.PowerStatus.TheVariants.{Off, On, Cooling, WarmUp}

abbrev pub power_code : PowerStatus → ℕ
power_code Off = code "0"
power_code On = code "1"
power_code Cooling = code "2"
power_code WarmUp = code "3"

abbrev pub powers : List PowerStatus
powers = Off ∷ On ∷ Cooling ∷ WarmUp ∷ []

abbrev pub power_named : ℕ → Option PowerStatus
power_named b = first_named power_code powers b

abbrev pub power_text : PowerStatus → List ℕ
power_text p = power_code p ∷ []

abbrev pub power_read : List ℕ → Option (PowerStatus × List ℕ)
power_read s = letter power_named s

abbrev pub switch_code : Bool → ℕ
switch_code false = code "0"
switch_code true = code "1"

abbrev pub switch_named : ℕ → Option Bool
switch_named b = first_named switch_code (false ∷ true ∷ []) b

abbrev pub switch_text : Bool → List ℕ
switch_text on = switch_code on ∷ []

abbrev pub switch_read : List ℕ → Option (Bool × List ℕ)
switch_read s = letter switch_named s
