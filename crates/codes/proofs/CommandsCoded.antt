-- Every command that can be written has a code, which stands for it; and the face tells a type by the table's number.
-- Assumes nothing.
use Rattle.std.proofs.Common.{arith, ℕ, ◌≡◌, Bool, true, ◌&&◌, nat_le, Some}
use Rattle.words.specs.Sources.{type_of}
use Rattle.pjlink.specs.Bodies.{has_query}
use Rattle.pjlink.specs.Commands.{is_command}
use Rattle.words.specs.declared.input.Source.{Source}
use Rattle.words.specs.declared.input.Input.{Input}
use Rattle.pjlink.specs.declared.body.Body.{Body}
use Rattle.pjlink.specs.declared.command.Half.{Half}
use Rattle.pjlink.specs.declared.command.Command.{Command}
use Rattle.pjlink.specs.declared.command.Command.TheVariants.{Query}
use Rattle.codes.specs.Commands.{switch, of_input, of_half, switch_at, source_at, input_at, half_at, stands_for}
use Rattle.codes.specs.Commands.{coded_command, bit, source_number, half_number, code_of}

-- the face tells a type by the table's number of it
pub face_follows : (s : Source) → source_number s ≡ type_of s
face_follows s = grind arith

-- from a command to its code and back
asked_back : (b : Body) → has_query b ≡ true → coded_command (code_of (Query b)) ≡ Some (Query b)
unfolding coded_command
asked_back b e = grind arith

switch_back : (f : Bool → Command) (on : Bool) → stands_for (switch f) (bit on) 0 ≡ Some (f on)
unfolding switch_at
switch_back f on = grind arith

input_back : (f : Input → Command) (s : Source) (n : ℕ) → (nat_le 1 n && nat_le n 35) ≡ true
    → stands_for (of_input f) (source_number s) n ≡ Some (f (record { source = s; number = n }))
unfolding input_at source_at
input_back f s n h = grind arith

half_back : (f : Half → Bool → Command) (h : Half) (on : Bool)
    → stands_for (of_half f) (half_number h) (bit on) ≡ Some (f h on)
unfolding half_at switch_at
half_back f h on = grind arith

pub code_back : (c : Command) → is_command c ≡ true → coded_command (code_of c) ≡ Some c
unfolding coded_command half_at input_at source_at switch_at
code_back c h = grind (arith, asked_back, switch_back, input_back, half_back)
