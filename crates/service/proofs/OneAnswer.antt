-- At most one answer holds of readings, and it leaves one list of differences.
-- Assumes nothing.
use Rattle.std.proofs.Common.{ℕ, ◌≡◌, ◌<◌, ◌≤◌, List, Option, Some, None, Result, Ok, Err, refl, ap, arith, ⊎_elim, ℤ}
use Rattle.std.proofs.Common.{All}
use Rattle.text.proofs.Orders.{le_or_lt}
use Rattle.service.specs.Differences.{IsForwards}
use Rattle.service.specs.ComparedHolds.{IsFirstBack, ComparedHolds, ComparedAs}
use Rattle.service.specs.declared.LampSeconds.{LampSeconds}
use Rattle.service.specs.declared.CompareError.{CompareError}
use Rattle.service.specs.declared.CompareError.TheVariants.{TooMany, NoRoom}

-- any reading, to read a place of a list by
abbrev pub unread : LampSeconds
unread = record { earlier = 0; later = 0 }

module _ (rs : List LampSeconds) where
  back_above : {j k : ℕ} → IsFirstBack rs j → IsFirstBack rs k → j < k → ⊥
  back_above {j} a b h = omega (arith, a.back unread, b.kept j unread (omega arith) h)

  one_back : {j k : ℕ} → IsFirstBack rs j → IsFirstBack rs k → j ≡ k
  one_back {j} {k} a b =
      ⊎_elim
      (λ (h : j ≤ k). ⊎_elim (λ (l : k ≤ j). omega arith) (λ l. absurd (back_above a b l)) (le_or_lt k j))
      (λ h. absurd (back_above b a h)) (le_or_lt j k)

  none_back : {k : ℕ} → IsFirstBack rs k → All IsForwards rs → ⊥
  none_back {k} a all = omega (arith, a.back unread, all k unread a.inside)

  module _ (room : ℕ) where
    abbrev Answer : Type 0
    Answer = Result (Option ℕ) CompareError

    pub one_answer : (b c : Answer) → ComparedHolds rs room b → ComparedHolds rs room c → b ≡ c
    one_answer (Ok None) (Ok None) p q = refl
    one_answer (Ok None) (Ok (Some k)) p q = absurd (none_back q.1 p.1)
    one_answer (Ok None) (Err TooMany) p q = absurd (omega (arith, p.0.few, q))
    one_answer (Ok None) (Err NoRoom) p q = absurd (omega (arith, p.0.fits, q.1))
    one_answer (Ok (Some j)) (Ok None) p q = absurd (none_back p.1 q.1)
    one_answer (Ok (Some j)) (Ok (Some k)) p q = ap (λ (k : ℕ). Ok (Some k)) (one_back p.1 q.1)
    one_answer (Ok (Some j)) (Err TooMany) p q = absurd (omega (arith, p.0.few, q))
    one_answer (Ok (Some j)) (Err NoRoom) p q = absurd (omega (arith, p.0.fits, q.1))
    one_answer (Err TooMany) (Ok None) p q = absurd (omega (arith, q.0.few, p))
    one_answer (Err TooMany) (Ok (Some k)) p q = absurd (omega (arith, q.0.few, p))
    one_answer (Err TooMany) (Err TooMany) p q = refl
    one_answer (Err TooMany) (Err NoRoom) p q = absurd (omega (arith, p, q.0))
    one_answer (Err NoRoom) (Ok None) p q = absurd (omega (arith, q.0.fits, p.1))
    one_answer (Err NoRoom) (Ok (Some k)) p q = absurd (omega (arith, q.0.fits, p.1))
    one_answer (Err NoRoom) (Err TooMany) p q = absurd (omega (arith, q, p.0))
    one_answer (Err NoRoom) (Err NoRoom) p q = refl

-- the same answer leaves the same list
one_list : (rs : List LampSeconds) (out : List ℤ) (b c : Result (Option ℕ) CompareError) (m n : List ℤ) → b ≡ c
    → ComparedAs rs out b m → ComparedAs rs out c n → m ≡ n
one_list rs out b c m n h g e = grind arith

pub one_comparison : (rs : List LampSeconds) (out : List ℤ) (b c : Result (Option ℕ) CompareError) (m n : List ℤ)
    → ComparedAs rs out b m → ComparedAs rs out c n → (b ≡ c) × (m ≡ n)
one_comparison rs out b c m n p q = grind (arith, one_answer, one_list)
