-- What a command's line asks for is that command, under its own class and in any case of the body's letters.
-- Assumes nothing.
use Rattle.std.proofs.Common.{arith, ℕ, ◌≡◌, true, List, Ok}
use Rattle.words.proofs.InputsReadBack.{input_of-input_text}
use Rattle.pjlink.specs.Commands.{body_of, command_class, parameter_of, is_command}
use Rattle.pjlink.specs.Bodies.{is_body}
use Rattle.pjlink.specs.Requests.{name_query_of, asked_of, request_of}
use Rattle.pjlink.specs.declared.command.Command.{Command}
use Rattle.pjlink.proofs.BodiesNamed.{body_is_named}

parameter_asked_back : (c : Command) → is_command c ≡ true → asked_of (body_of c) (parameter_of c) ≡ Ok c
unfolding asked_of name_query_of
parameter_asked_back c h = grind (arith, input_of-input_text)

pub command_asked_back : (c : Command) (s : List ℕ) → is_command c ≡ true →
    is_body (command_class c) s (body_of c) ≡ true
    → request_of (command_class c) s (parameter_of c) ≡ Ok c
unfolding request_of
command_asked_back c s e f = grind (arith, body_is_named, parameter_asked_back)
