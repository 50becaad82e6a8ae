-- What a program says of itself.
--   help_text a       how it is called, and the help
--   version_text a    its name, a space, and the version of the face with the kit, in a line
-- Assumes nothing.
use Rattle.std.specs.Prelude.{ℕ, List, ◌++◌, codes}
use Rattle.reasons.specs.About.{version_line}
use Rattle.program.specs.declared.about.About.{About}

abbrev pub help_text : About → List ℕ
help_text a = a.usage.now ++ a.help.now

abbrev pub version_text : About → List ℕ
version_text a = a.name.now ++ (codes " " ++ version_line)
