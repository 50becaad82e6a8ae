-- What a method of the writer does.
--   Puts old new s    the bytes s stand after what was written, as far as the memory goes, and are counted
-- Assumes nothing.
use Rattle.std.specs.Prelude.{◌≡◌, ℕ, ◌+◌, List, length}
use Rattle.std.proofs.lemmas.List.Edits.{sets}
use Rattle.lent.specs.declared.MemoryWriter.{MemoryWriter}

pub record Puts (old new : MemoryWriter) (s : List ℕ) : Type 0 where
  pub lent : new.out.ghost_name ≡ old.out.ghost_name
  pub memory : new.out.now ≡ sets old.out.now old.at s
  pub count : new.at ≡ old.at + length s
