use Rattle.pjlink.proofs.FormsSpelt.{line_class_taken, class_byte}
use Rattle.pjlink.proofs.RepliesReadBack.{reply_other_class}
use Rattle.pjlink.proofs.theorems.a_line_has_its_class.Goals as goal

pub returns : goal.returns
returns c = record {
  taken = line_class_taken;
  digit = class_byte;
  other = λ s letters. reply_other_class letters;
}
