use Rattle.workroom.proofs.FaceReadsBack.{face_reads_back, face_reads_back_secured, face_greets_back}
use Rattle.workroom.proofs.theorems.the_face_reads_back.Goals as goal

pub returns : goal.returns
returns c = record {
  read_back = λ d p there legal between k c named within room enough memory lent phase random password.
      let t = face_reads_back d p there legal between k c named within room enough memory lent phase random password in
      (t.written, t.taken.taken, t.read);
  read_back_secured = λ d p there legal between k c named within room enough memory lent phase.
      let t = face_reads_back_secured d p there legal between k c named within room enough memory lent phase in
      (t.written, t.taken.taken, t.read);
  greeting = face_greets_back;
}
