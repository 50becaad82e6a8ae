-- What a projector can say, apart from any bytes, and the parameter that says it (RULES, Commands; PJLink 1.04, 2.5 and
-- 4; RULES, Class 2).
--   Said               OK; ERRn; a power; a chosen input; the mutes of video and audio; six error digits; lamps;
--                      inputs; a text; a class; whether the picture is frozen; or nothing: a parameter that is not
--                      allowed
--   said_text m        the parameter that says m, row by row
--   said_bytes m       the bytes of said_text m; crates above cite its laws, not its text
--   parameter_most     how many bytes a parameter of a reply has at most
--   bytes_most m       how many bytes an answer of m's kind has at most: 63 for 8 lamps, 8 × 7 and 7 spaces (PJLink
--                      allows 65)
--   said_most          how many bytes any answer has at most: an input's name has 128 (RULES, Class 2)
-- Assumes nothing.
use Rattle.std.specs.Prelude.{ℕ, ◌*◌, ◌-◌, Bool, List, [], ◌∷◌, ◌++◌, length, codes}
use Rattle.words.specs.Classes.{class_text}
use Rattle.words.specs.Inputs.{input_text, number_digit}
use Rattle.words.specs.Joined.{list_text}
use Rattle.words.specs.Powers.{power_text, switch_text}
use Rattle.words.specs.Muting.{halves_text}
use Rattle.words.specs.ErrorDigits.{errors_text}
use Rattle.words.specs.Lamps.{lamp_text}
use Rattle.words.specs.declared.class.ClassNumber.{ClassNumber}
use Rattle.words.specs.declared.input.Input.{Input}
use Rattle.words.specs.declared.power.PowerStatus.{PowerStatus}
use Rattle.words.specs.declared.lamp.LampHours.{LampHours}

pub data Said : Type 0 where
  okay : Said
  refused : ℕ → Said
  power_is : PowerStatus → Said
  chosen_is : Input → Said
  mutes_are : Bool → Bool → Said
  errors_are : List ℕ → Said
  lamps_are : List LampHours → Said
  inputs_are : List Input → Said
  text_is : List ℕ → Said
  class_is : ClassNumber → Said
  freeze_is : Bool → Said
  nothing : Said

abbrev pub numbered_refusal : ℕ → List ℕ
numbered_refusal n = codes "ERR" ++ (number_digit n ∷ [])

abbrev pub said_text : Said → List ℕ
said_text okay = codes "OK"
said_text (refused n) = numbered_refusal n
said_text (power_is p) = power_text p
said_text (chosen_is i) = input_text i
said_text (mutes_are video audio) = halves_text video audio
said_text (errors_are ds) = errors_text ds
said_text (lamps_are ls) = list_text lamp_text ls
said_text (inputs_are is) = list_text input_text is
said_text (text_is s) = s
said_text (class_is k) = class_text k
said_text (freeze_is on) = switch_text on
said_text nothing = []

unfoldable pub said_bytes : Said → List ℕ
said_bytes m = said_text m

abbrev pub parameter_most : ℕ
parameter_most = 128

abbrev pub said_most : ℕ
said_most = 128

abbrev pub bytes_most : Said → ℕ
bytes_most okay = 2
bytes_most (refused n) = 4
bytes_most (power_is p) = 1
bytes_most (chosen_is i) = 2
bytes_most (mutes_are video audio) = 2
bytes_most (errors_are ds) = 6
bytes_most (lamps_are ls) = 63
bytes_most (inputs_are is) = 3 * length is - 1
bytes_most (text_is s) = length s
bytes_most (class_is k) = 1
bytes_most (freeze_is on) = 1
bytes_most nothing = 0
