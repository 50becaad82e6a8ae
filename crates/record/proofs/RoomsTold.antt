-- The lamps of a record fit their room, and their marks, by what is used of it.
-- Assumes nothing.
use Rattle.std.proofs.Common.{◌≡◌, ℕ, ◌≤◌, Bool, true, List, length, arith, ◌&&◌, is_some, not, ◌==◌, ◌||◌}
use Rattle.std.proofs.lemmas.Grind.{common_steps}
use Rattle.std.specs.List.{list_all}
use Rattle.text.specs.Flags.{is_flag, is_lowered}
use Rattle.text.specs.Rooms.{used_part}
use Rattle.text.proofs.RoomsTold.{is_some_used, uses_told}
use Rattle.record.specs.Limits.{lamps_most}
use Rattle.record.specs.Rules.{is_marks}
use Rattle.record.specs.Legal.{is_zero, fills_room}

pub fills_inside : (room : ℕ) (rule : List ℕ → Bool) (s : List ℕ) (n : ℕ) → fills_room room rule s n ≡ true → n ≤ room
unfolding fills_room
fills_inside room rule s n h = ((uses_told is_zero room rule s n).0 h).inside

pub marks_used : (n : ℕ) (ms : List ℕ) → n ≤ lamps_most → length ms ≡ lamps_most → is_marks n ms
    ≡ (is_some (used_part is_lowered lamps_most ms n) && list_all is_flag ms
    && (n == 0 || not (list_all is_lowered ms)))
unfolding is_marks
marks_used n ms few long = grind (arith, common_steps, is_some_used is_lowered lamps_most ms n long)
