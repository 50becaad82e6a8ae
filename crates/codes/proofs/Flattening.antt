-- The loop that flattens inputs: the characters of one input more.
-- Assumes nothing.
use Rattle.std.proofs.Common.{ℕ, ◌+◌, ◌*◌, ◌<◌, ◌≤◌, ◌≡◌, refl, List, append_assoc, arith}
use Rattle.std.proofs.Common.{length, slice_index_or, set, take, length-append, length-take-le}
use Rattle.text.specs.Rooms.{filled_room}
use Rattle.text.proofs.InTurn.{length-each_in_turn, each_in_turn-take}
use Rattle.text.proofs.RoomsFilled.{set-filled_room}
use Rattle.words.specs.Sources.{number_character}
use Rattle.words.specs.Inputs.{input_text, source_digit}
use Rattle.words.specs.declared.input.Input.{Input}
use Rattle.pjlink.specs.Carried.{inputs_carried}
use Rattle.codes.specs.Readings.{characters}

length-characters : (is : List Input) → length (characters is) ≡ 2 * length is
length-characters is = length-each_in_turn input_text 2 (λ x. refl) is

-- one turn: two stores for one input more
pub one_more_input : (l : List Input) (k : ℕ) (d : Input) → k < length l → length l ≤ inputs_carried
    → set (set (filled_room 0 64 (characters (take k l))) (2 * k) (source_digit (slice_index_or l k d).source))
    (2 * k + 1) (number_character (slice_index_or l k d).number)
    ≡ filled_room 0 64 (characters (take (k + 1) l))
one_more_input l k d h few =
    grind (
      arith,
      length-characters,
      length-take-le,
      set-filled_room,
      length-append,
      append_assoc,
      each_in_turn-take input_text l k d h,
    )
