-- When a request is refused: the four rules of RULES, Commands, in its order. PJLink 1.04, 2.5 names the four refusals.
-- Which body is query-only, which needs lamps and which needs the power to be on is in its row (`row_of` of `pjlink`).
--   is_undefined s r          rule 1, ERR1: undefined command
--   is_out_of_parameter s r   rule 2, ERR2: out of parameter
--   is_failure o r            rule 3, ERR4: projector failure
--   is_unavailable o r        rule 4, ERR3: unavailable time
-- A request is what is read of a line (`request_of`): a command with a parameter that is `?` or one that its body
-- knows, a body with any other parameter (Unlisted), or no body of the line's class. Class 2 has the same rules (RULES,
-- Class 2).
-- Assumes nothing.
use Rattle.std.specs.Prelude.{ℕ, Bool, true, false, not, ◌&&◌, ◌||◌, Ok, Err, ◌==◌}
use Rattle.pjlink.specs.Bodies.{row_of, has_set, has_parameters, has_query}
use Rattle.pjlink.specs.Commands.{body_of}
use Rattle.pjlink.specs.declared.command.Command.{Command}
use Rattle.pjlink.specs.declared.command.Command.TheVariants.{PowerSet, InputSet, Query, NameQuery}
use Rattle.pjlink.specs.Requests.{Request}
use Rattle.pjlink.specs.declared.request.Unasked.TheVariants.{Unlisted, UnknownBody}
use Rattle.text.specs.Flags.{is_raised}
use Rattle.record.specs.Limits.{on, is_between}
use Rattle.record.specs.declared.types.Settings.{Settings}
use Rattle.record.specs.declared.types.Own.{Own}
use Rattle.meaning.specs.SetUpInputs.{is_listed}

-- no line asks `?` of a body that has no query (`request_of`): it is no command, and so undefined
abbrev pub is_no_query : Command → Bool
is_no_query (Query b) = not (has_query b)
is_no_query c = false

-- 1. Unknown body, a query-only body with a parameter other than `?`, or LAMP with no lamps: ERR1.
abbrev pub is_undefined : Settings → Request → Bool
is_undefined s (Err UnknownBody) = true
is_undefined s (Err (Unlisted b)) = not (has_parameters b)
is_undefined s (Ok c) = is_no_query c || (row_of (body_of c)).lamps && s.lamp_count == 0

-- An input not in the set-up is not listed.
abbrev pub is_unlisted : Settings → Command → Bool
is_unlisted s (InputSet k i) = not (is_listed s i)
is_unlisted s (NameQuery i) = not (is_listed s i)
is_unlisted s c = false

-- 2. POWR, INPT or AVMT with a parameter neither `?` nor listed: ERR2. FREZ, SVOL, MVOL and INNM too (RULES, Class 2).
abbrev pub is_out_of_parameter : Settings → Request → Bool
is_out_of_parameter s (Err UnknownBody) = false
is_out_of_parameter s (Err (Unlisted b)) = has_parameters b
is_out_of_parameter s (Ok c) = is_unlisted s c

-- 3. POWR, INPT, AVMT, set or query, with the fault flag: ERR4. FREZ, SVOL and MVOL too (RULES, Class 2).
abbrev pub is_failure : Own → Request → Bool
is_failure o (Err UnknownBody) = false
is_failure o (Err (Unlisted b)) = has_set b && is_raised o.fault
is_failure o (Ok c) = has_set (body_of c) && is_raised o.fault

abbrev pub is_untimely : ℕ → Command → Bool
is_untimely power (PowerSet wanted) = is_between power
is_untimely power c = (row_of (body_of c)).on && not (power == on)

-- 4. POWR set in warm-up or cooling; INPT and AVMT, set or query, unless on: ERR3. FREZ, SVOL and MVOL too (RULES,
-- Class 2).
abbrev pub is_unavailable : Own → Request → Bool
is_unavailable o (Err u) = false
is_unavailable o (Ok c) = is_untimely o.power c
