-- Which bytes say what (RULES, Commands: the parameter of each answer; "Controller": "Sets allow OK and ERR1 to ERR4;
-- queries the values above or ERR1, ERR3, ERR4"; RULES, Class 2: a query that names an input also ERR2). A relation, as
-- lamps have more than one writing (RULES, Controller): other makers pad a lamp's hours with zeros, to five digits at
-- most.
--   Writes m p         the bytes p are a writing of m: lamps, each in a writing of its own, joined by single spaces; of
--                      any other answer the one that a projector of ours makes
--   Says c m p         the parameter p says m in reply to the command c
--   IsAllowed c p t    whether p is allowed in reply to c: true if it says something, false if it says nothing
-- Assumes nothing.
use Rattle.std.specs.Prelude.{ℕ, ◌≡◌, Bool, true, false, List}
use Rattle.words.specs.Joined.{JoinedBy}
use Rattle.words.specs.Lamps.{WritesLampHours}
use Rattle.pjlink.specs.declared.command.Command.{Command}
use Rattle.pjlink.specs.Said.{Said, okay, refused, power_is, chosen_is, mutes_are, errors_are, lamps_are, inputs_are}
use Rattle.pjlink.specs.Said.{text_is, class_is, freeze_is, nothing, said_bytes}
use Rattle.pjlink.specs.CanSay.{CanSay}

abbrev pub Writes : Said → List ℕ → Type 0
Writes okay p = p ≡ said_bytes okay
Writes (refused n) p = p ≡ said_bytes (refused n)
Writes (power_is q) p = p ≡ said_bytes (power_is q)
Writes (chosen_is i) p = p ≡ said_bytes (chosen_is i)
Writes (mutes_are video audio) p = p ≡ said_bytes (mutes_are video audio)
Writes (errors_are ds) p = p ≡ said_bytes (errors_are ds)
Writes (lamps_are ls) p = JoinedBy WritesLampHours ls p
Writes (inputs_are is) p = p ≡ said_bytes (inputs_are is)
Writes (text_is s) p = p ≡ said_bytes (text_is s)
Writes (class_is k) p = p ≡ said_bytes (class_is k)
Writes (freeze_is on) p = p ≡ said_bytes (freeze_is on)
Writes nothing p = p ≡ said_bytes nothing

pub record Says (c : Command) (m : Said) (p : List ℕ) : Type 0 where
  pub can : CanSay c m
  pub written : Writes m p

pub data IsAllowed (c : Command) (p : List ℕ) : Bool → Type 0 where
  says : (m : Said) → Says c m p → IsAllowed c p true
  says_nothing : ((m : Said) → Says c m p → ⊥) → IsAllowed c p false
