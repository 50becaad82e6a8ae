-- What is used of a room, by the tests that find it; what these tests tell; and that what is kept in a room is used.
-- Assumes nothing.
use Rattle.std.proofs.Common.{◌≡◌, ℕ, ◌<◌, ◌≤◌, ◌↔◌, IsTrue, Bool, true, false, List, ◌++◌, length, take, drop, zero}
use Rattle.std.proofs.Common.{suc, replicate, Some, None, arith, ap, refl, ◌&&◌, nat_le, length-append, is_some}
use Rattle.std.specs.List.{list_all}
use Rattle.std.proofs.Math.Seq.{take-append_seam, drop-append_seam}
use Rattle.std.proofs.lemmas.List.{drop-replicate, length-replicate}
use Rattle.std.proofs.lemmas.Grind.{common_steps}
use Rattle.text.specs.Rooms.{used_part, holds, filled_room, Uses}

module _ {A : Type 0} (blank : A → Bool) (room : ℕ) (s : List A) (n : ℕ) (long : length s ≡ room) where
  pub used_many : room < n → used_part blank room s n ≡ None
  unfolding used_part
  used_many h = grind (arith, common_steps)

  pub used_not_blank : n ≤ room → list_all blank (drop n s) ≡ false → used_part blank room s n ≡ None
  unfolding used_part
  used_not_blank h e = grind (arith, common_steps)

  pub used_blank : n ≤ room → list_all blank (drop n s) ≡ true → used_part blank room s n ≡ Some (take n s)
  unfolding used_part
  used_blank h e = grind (arith, common_steps)

pub ruleset used_by_tests = (used_many, used_not_blank, used_blank)

pub rest_kept : {A : Type 0} (x : A) (items : List A) (n : ℕ)
    → (items ++ drop (length items) (replicate n x)) ≡ filled_room x n items
rest_kept x items n = ap (λ r. items ++ r) (drop-replicate (length items) n x)

pub is_some_used : {A : Type 0} (blank : A → Bool) (room : ℕ) (s : List A) (n : ℕ) → length s ≡ room
    → is_some (used_part blank room s n) ≡ (nat_le n room && list_all blank (drop n s))
unfolding used_part
is_some_used blank room s n long = grind (arith, common_steps)

pub holds_used : {A : Type 0} (blank : A → Bool) (room : ℕ) (rule : List A → Bool) (s : List A) (n : ℕ) → n ≤ room
    → length s ≡ room → holds rule (used_part blank room s n) ≡ (list_all blank (drop n s) && rule (take n s))
unfolding used_part
holds_used blank room rule s n few long = grind (arith, common_steps)

-- a room is used so where its tests hold
pub uses_told : {A : Type 0} (blank : A → Bool) (room : ℕ) (rule : List A → Bool) (s : List A) (n : ℕ)
    → IsTrue (holds rule (used_part blank room s n)) ↔ Uses blank room rule s n
unfolding used_part
uses_told blank room rule s n = grind arith

all_blank : {A : Type 0} (blank : A → Bool) (x : A) (n : ℕ) → blank x ≡ true → list_all blank (replicate n x) ≡ true
all_blank blank x zero h = refl
all_blank blank x (suc n) h = rw h (all_blank blank x n h)

-- what is kept in a room is used of it
pub kept_used : {A : Type 0} (blank : A → Bool) (x : A) (room : ℕ) (rule : List A → Bool) (items : List A)
    → length items ≤ room → blank x ≡ true → rule items ≡ true
    → Uses blank room rule (filled_room x room items) (length items)
kept_used {A} blank x room rule items fits blanks follows =
    grind (arith, length-append, length-replicate, drop-append_seam, all_blank, take-append_seam)
