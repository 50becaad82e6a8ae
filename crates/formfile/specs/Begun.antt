-- What a log can begin with, whatever an argument names and whatever a file holds (RULES, Floor log and Stored form).
--   IsBegun r         r is a legal record, or why there is none
--   form_room         how many bytes are read at most: one more than any form has
--   IsBegunBy form r  r is what loading these bytes gives, and the sum of what is read of them, which the first file's
--                     header has (RULES, History of a board)
--   IsReadBy form r   r is that, or the bytes could not be read
-- Assumes nothing.
use Rattle.std.specs.Prelude.{ℕ, List, ◌≡◌, take, true, Result, Ok, Err}
use Rattle.crc32.specs.Crc.{crc32_of}
use Rattle.text.specs.Outcomes.{with_record}
use Rattle.record.specs.Legal.{is_legal}
use Rattle.stored.specs.Loading.{loaded_from}
use Rattle.formfile.specs.declared.Begun.{Begun}
use Rattle.formfile.specs.declared.NotBegun.{NotBegun}
use Rattle.formfile.specs.declared.NotBegun.TheVariants.{Unread, Refused}

abbrev pub IsBegun : Result Begun NotBegun → Type 0
IsBegun (Ok b) = is_legal b.device ≡ true
IsBegun (Err why) = Unit {0}

abbrev pub form_room : ℕ
form_room = 68867

abbrev pub IsBegunBy : List ℕ → Result Begun NotBegun → Type 0
IsBegunBy form (Ok b) = (with_record (loaded_from form) ≡ Ok b.device) × (b.sum ≡ crc32_of (take form_room form))
IsBegunBy form (Err (Unread e)) = ⊥
IsBegunBy form (Err (Refused e)) = with_record (loaded_from form) ≡ Err e

abbrev pub IsReadBy : List ℕ → Result Begun NotBegun → Type 0
IsReadBy form (Ok b) = IsBegunBy form (Ok b)
IsReadBy form (Err (Unread e)) = Unit {0}
IsReadBy form (Err (Refused e)) = IsBegunBy form (Err (Refused e))
