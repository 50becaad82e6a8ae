use Rattle.pjlink.proofs.ReadWritings.{read_was_written, written_is_read, one_meaning, not_allowed_says_nothing}
use Rattle.pjlink.proofs.ReadWritings.{allowed_says_something, allowed_or_not}
use Rattle.pjlink.proofs.theorems.what_is_read_was_written.Goals as goal

pub returns : goal.returns
returns c = record {
  read_was_written = read_was_written;
  written_is_read = written_is_read;
  one_meaning = λ c p m n. one_meaning c p;
  not_allowed = not_allowed_says_nothing;
  allowed = allowed_says_something;
  either = allowed_or_not;
}
