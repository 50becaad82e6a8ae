-- Whether the controller's writer takes a command by its code, with that password: what is no command it takes never.
--   is_writable_by m secured password
-- Assumes nothing.
use Rattle.std.specs.Prelude.{ℕ, Bool, false, List, Option, Some, None}
use Rattle.pjlink.specs.declared.command.Command.{Command}
use Rattle.controller.specs.Writing.{is_writable}

abbrev pub is_writable_by : Option Command → Bool → List ℕ → Bool
is_writable_by (Some c) secured password = is_writable c secured password
is_writable_by None secured password = false
