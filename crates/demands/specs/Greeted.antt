-- The greeting of an opened connection, as the controller reads it (RULES, Connection).
--   greeted_on c    the greeting of the connection c; there always is one
-- Assumes nothing.
use Rattle.std.specs.Prelude.{if◌then◌else◌, ◌==◌, Option, Some}
use Rattle.record.specs.Limits.{phase_awaiting}
use Rattle.record.specs.declared.types.Connection.{Connection}
use Rattle.pjlink.specs.declared.greeting.Greeting.{Greeting}
use Rattle.pjlink.specs.declared.greeting.Greeting.TheVariants.{Open, Secured}

abbrev pub greeted_on : Connection → Option Greeting
greeted_on c = Some (if c.phase == phase_awaiting then Secured c.random else Open)
