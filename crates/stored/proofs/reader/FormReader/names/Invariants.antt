-- The names that have been read stand before what is left, and each was tested.
use Rattle.std.specs.List.{list_all}
use Rattle.std.proofs.Common.{◌≡◌}
use Rattle.words.specs.Texts.{is_input_name}
use Rattle.record.specs.Wanted.{counted_in}
use Rattle.stored.proofs.TextsRead.{TextsRead}
use Rattle.stored.proofs.reader.FormReader.names.Given as goal

abbrev pub invariant-loop : goal.invariant-loop
invariant-loop l =
    TextsRead l.whole l.counter l.self × (l.are_named ≡ list_all is_input_name (counted_in l.counter l.whole))
