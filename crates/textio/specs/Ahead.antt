-- What the clauses say of a `BufferedReader`.
--   ahead_of r       the bytes that are read ahead and not yet consumed
--   left_in f r      these bytes, and then those of the source, if they are known
-- Assumes nothing.
use Rattle.std.specs.Prelude.{ℕ, List, slice_range}
use Rattle.std.specs.declared.option.Option.{Option}
use Rattle.std.specs.Io.KnownBytes.{prepend_known}
use Rattle.textio.specs.declared.reader.BufferedReader.{BufferedReader}

abbrev pub ahead_of : {R : Type 0} → BufferedReader R → List ℕ
ahead_of r = slice_range r.bytes r.start r.end

abbrev pub left_in : {R : Type 0} → (R → Option (List ℕ)) → BufferedReader R → Option (List ℕ)
left_in remaining r = prepend_known (ahead_of r) (remaining r.inner)
