-- A list in a room of so many places (RULES, The legal record): its items from the start on, and the rest blank.
--   used_part blank room s n  what is used of the array s, n items: none where it has no such room, or where a place
--                             from n on is not blank
--   holds rule u              something is used, and it follows the rule
--   filled_room x room items  the room that holds these items, and x at each place after them
--   Uses blank room rule s n  the array s has that room, its first n places follow the rule, the rest is blank
-- Assumes nothing.
use Rattle.std.specs.Prelude.{ℕ, ◌-◌, ◌≡◌, ◌≤◌, IsTrue, Bool, false, ◌&&◌, List, ◌++◌, length, take, drop, replicate}
use Rattle.std.specs.Prelude.{nat_le, ◌==◌, Option, Some, None, if◌then◌else◌}
use Rattle.std.specs.List.{list_all}

unfoldable pub used_part : {A : Type 0} → (A → Bool) → ℕ → List A → ℕ → Option (List A)
used_part blank room s n =
    if length s == room && nat_le n room && list_all blank (drop n s) then Some (take n s) else None

abbrev pub holds : {A : Type 0} → (List A → Bool) → Option (List A) → Bool
holds rule None = false
holds rule (Some s) = rule s

abbrev pub filled_room : {A : Type 0} → A → ℕ → List A → List A
filled_room x room items = items ++ replicate (room - length items) x

pub record Uses {A : Type 0} (blank : A → Bool) (room : ℕ) (rule : List A → Bool) (s : List A) (n : ℕ) : Type 0 where
  pub long : length s ≡ room
  pub inside : n ≤ room
  pub clear : IsTrue (list_all blank (drop n s))
  pub follows : IsTrue (rule (take n s))
