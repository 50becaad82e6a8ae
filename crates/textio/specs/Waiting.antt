-- What the clauses say of a `BufferedWriter`.
--   waiting_in w     the bytes that are not yet passed on to the sink
--   held_by f w      the bytes that the sink has got, and then these, if they are known
-- Assumes nothing.
use Rattle.std.specs.Prelude.{ℕ, List, slice_range}
use Rattle.std.specs.declared.option.Option.{Option}
use Rattle.std.specs.Io.KnownBytes.{append_known}
use Rattle.textio.specs.declared.writer.BufferedWriter.{BufferedWriter}

abbrev pub waiting_in : {W : Type 0} → BufferedWriter W → List ℕ
waiting_in w = slice_range w.bytes w.start w.end

abbrev pub held_by : {W : Type 0} → (W → Option (List ℕ)) → BufferedWriter W → Option (List ℕ)
held_by contents w = append_known (contents w.inner) (waiting_in w)
