-- What a sink got of bytes that were to be written, if it is known what it holds.
--   WritesFront old new bytes     the sink got a prefix of them, perhaps all or none
--   WritesText fails old new ..   what a call that writes a text has done: the sink got all of it if the result is
--                                 `Ok`, else a prefix, and the error is one that `fails` has
-- Assumes nothing.
use Rattle.std.specs.Prelude.{ℕ, List, take}
use Rattle.std.specs.declared.option.Option.{Option}
use Rattle.std.specs.declared.result.Result.{Result}
use Rattle.std.specs.Result.{OnOk, IfErr}
use Rattle.std.specs.Io.KnownBytes.{Appends}

pub record WritesFront (old new : Option (List ℕ)) (bytes : List ℕ) : Type 0 where
  pub count : ℕ
  pub written : Appends old new (take count bytes)

pub record WritesText {T E : Type 0} (fails : E → Type 0) (old new : Option (List ℕ)) (result : Result T E)
    (text : List ℕ) : Type 0 where
  pub whole : OnOk result (Appends old new text)
  pub front : WritesFront old new text
  pub err : IfErr result fails
