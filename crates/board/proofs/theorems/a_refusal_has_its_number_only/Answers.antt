use Rattle.board.proofs.Refusals.{write_number, refused_writes_nothing, no_command_written}
use Rattle.board.proofs.Refusals.{read_number, refused_means_nothing, no_command_read}
use Rattle.board.proofs.theorems.a_refusal_has_its_number_only.Goals as goal

pub returns : goal.returns
returns c = record {
  write_number = λ m secured random password room. write_number secured random password room m;
  nothing_written = λ m secured random password room. refused_writes_nothing secured random password room m;
  no_command_written = λ k secured random password room. no_command_written secured random password room k;
  read_number = read_number;
  nothing_meant = refused_means_nothing;
  no_command_read = no_command_read;
}
