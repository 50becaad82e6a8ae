use Rattle.codes.proofs.CommandsCoded.{code_back}
use Rattle.codes.proofs.CodesBack.{command_back, command_writable, one_code, stands_for_its_command}
use Rattle.codes.proofs.theorems.a_command_has_one_code.Goals as goal

pub returns : goal.returns
returns c = record {
  code_back = code_back;
  command_back = command_back;
  command_writable = command_writable;
  one_code = one_code;
  stands_for_its_command = stands_for_its_command;
}
