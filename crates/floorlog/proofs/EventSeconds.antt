-- No event lets more seconds pass than a number of 32 bits can tell.
-- Assumes nothing.
use Rattle.std.proofs.Common.{arith, ℕ, ◌≤◌, ◌&&◌, List, length, nat_le, ◌==◌}
use Rattle.std.specs.List.{list_all}
use Rattle.text.proofs.Choices.{if_all}
use Rattle.digest.specs.Hex.{is_hex_digit}
use Rattle.words.specs.Bytes.{is_cr_free}
use Rattle.clock.specs.Passing.{seconds_most}
use Rattle.floorlog.specs.Events.{LogEvent, log_line_most, random_said, seconds_said, form_said, event}
use Rattle.floorlog.specs.Told.{seconds_of}

abbrev Within : LogEvent → Type 0
Within e = seconds_of e ≤ seconds_most

seconds_within : (s : List ℕ) → Within (seconds_said s)
unfolding seconds_said
seconds_within s = grind arith

random_within : (s : List ℕ) → Within (random_said s)
unfolding random_said
random_within s = if_all Within (length s == 8 && list_all is_hex_digit s) (omega arith) (omega arith)

form_within : (l : List ℕ) → Within (form_said l)
unfolding form_said
form_within l = grind (arith, if_all, random_within, seconds_within)

pub event_seconds : (l : List ℕ) → Within (event l)
unfolding event
event_seconds l = if_all Within (nat_le (length l) log_line_most && is_cr_free l) (form_within l) (omega arith)
