-- The class of a projector, of a body and of a line: 1 or 2 (RULES, Commands and Class 2; PJLink 1.04, 4.14).
--   class_as_number k   the class as a number, 1 or 2
--   class_code k     its character; class_text k writes it, and class_read reads it
-- Assumes nothing.
use Rattle.std.specs.Prelude.{ℕ, ◌+◌, List, [], ◌∷◌, Option}
use Prim.Native.Char.{code}
use Rattle.words.specs.Codec.{first_named, letter}
use Rattle.words.specs.declared.class.ClassNumber.{ClassNumber}
use Rattle.words.specs.declared.class.ClassNumber.TheVariants.{One, Two}

abbrev pub class_as_number : ClassNumber → ℕ
class_as_number One = 1
class_as_number Two = 2

abbrev pub class_code : ClassNumber → ℕ
class_code k = code "0" + class_as_number k

abbrev pub classes : List ClassNumber
classes = One ∷ Two ∷ []

abbrev pub class_text : ClassNumber → List ℕ
class_text k = class_code k ∷ []

abbrev pub class_named : ℕ → Option ClassNumber
class_named b = first_named class_code classes b

abbrev pub class_read : List ℕ → Option (ClassNumber × List ℕ)
class_read s = letter class_named s
