-- An outsider has no say (RULES, Places): two runs from one fresh set-up with a password have the same calls in the
-- same order, differ only in the bytes given to one secured place, and in neither run does that place ever match its
-- digest.
--   Alike p a b                    a and b are the same call, or both receive at place p, with other bytes
--   AllAlike p xs ys               xs and ys are the same calls in the same order, but for the bytes given to place p
--   is_opening c, opens_none cs    the call c is an opening; no call of cs is
--   phase_at B p d                 the phase of place p
--   QuietOnceApart B p d e xs ys   from any moment at which the two runs differ in the phase of place p, nobody opens
--   is_at_place p c                the call c closes or receives at place p: what it gives is that place's own answer
--   others_got B p d cs            what the calls cs give, one after another, without those at place p
--   SameElsewhere B p d e          the device part, and every other place's connection, are the same in d and e
--   Unheard B                      on the board B an outsider has no say
-- What holds at the end of every two such runs holds at every moment: what came before is two such runs.
-- So someone on the network without the password can do nothing to the projector but occupy places: each for 30
-- seconds, and for 30 more after a refused line. Against that a host can close whoever stays silent (closing at a place
-- is its own call), or keep strangers off the network.
-- TO BELIEVE IT, believe, and nothing else: what a password is (`has_password` of device/specs/Calls), when a first
-- line matches (`IsNeverMatched` of Outsider), ours/specs/Board, and here Calls.
-- Assumes nothing.
use Rattle.std.specs.List.{list_all}
use Rattle.std.specs.Prelude.{ℕ, ◌≡◌, Bool, true, false, not, List, [], ◌∷◌, if◌then◌else◌, ◌==◌}
use Rattle.record.specs.Wanted.{Wanted}
use Rattle.record.specs.Places.{connection_at}
use Rattle.device.specs.Receiving.{set_up_password}
use Rattle.device.specs.Calls.{has_password}
use Rattle.ours.specs.Board.{Board}
use Rattle.demands.specs.Calls.{Call, opens, closes, receives, after, run, Gave, gave_by}
use Rattle.demands.specs.Outsider.{unopened, IsNeverMatched, SameDevicePart}

-- ---- the two runs

pub data Alike (p : ℕ) : Call → Call → Type 0 where
  same_call : {c : Call} → Alike p c c
  other_bytes : {bs cs memory : List ℕ} → Alike p (receives p bs memory) (receives p cs memory)

pub data AllAlike (p : ℕ) : List Call → List Call → Type 0 where
  no_calls : AllAlike p [] []
  one_more : {a b : Call} {xs ys : List Call} → Alike p a b → AllAlike p xs ys → AllAlike p (a ∷ xs) (b ∷ ys)

abbrev pub is_opening : Call → Bool
is_opening (opens random m) = true
is_opening c = false

abbrev pub opens_none : List Call → Bool
opens_none cs = list_all (λ c. not (is_opening c)) cs

abbrev pub phase_at : {R : Type 0} → Board R → ℕ → R → ℕ
phase_at B p d = (connection_at (B.shows d) p).phase

-- "as closing frees a place, the premise is that nobody opens after the first moment the two runs differ in that
-- place's phase"
abbrev pub QuietOnceApart : {R : Type 0} → Board R → ℕ → R → R → List Call → List Call → Type 0
QuietOnceApart B p d e (a ∷ xs) (b ∷ ys) =
    ((phase_at B p d ≡ phase_at B p e → ⊥) → opens_none (a ∷ xs) ≡ true)
    × QuietOnceApart B p (after B d a) (after B e b) xs ys
QuietOnceApart B p d e [] ys = Unit {0}
QuietOnceApart B p d e (a ∷ xs) [] = Unit {0}

-- ---- what others get

abbrev pub is_at_place : ℕ → Call → Bool
is_at_place p (closes q) = q == p
is_at_place p (receives q bs m) = q == p
is_at_place p c = false

abbrev pub others_got : {R : Type 0} → Board R → ℕ → R → List Call → List Gave
others_got B p d [] = []
others_got B p d (c ∷ cs) =
    if is_at_place p c then others_got B p (after B d c) cs else gave_by B d c ∷ others_got B p (after B d c) cs

-- ---- the theorem

pub record SameElsewhere {R : Type 0} (B : Board R) (p : ℕ) (d e : R) : Type 0 where
  pub device : SameDevicePart B d e
  pub others : (q : ℕ) → (q ≡ p → ⊥) → connection_at (B.shows e) q ≡ connection_at (B.shows d) q

-- "Then every reply on the other places, the whole device part of the record, the results of open calls and the other
-- connections are equal"
pub record HeardAlike {R : Type 0} (B : Board R) (p : ℕ) (d e : R) (xs ys : List Call) : Type 0 where
  pub got : others_got B p d xs ≡ others_got B p e ys
  pub left : SameElsewhere B p (run B d xs) (run B e ys)

pub record Unheard {R : Type 0} (B : Board R) : Type 0 where
  pub outsider_unheard : (w : Wanted) (p : ℕ) (xs ys : List Call)
      → let d = (B.set_up w).device in
      let password = set_up_password (B.shows d).settings in
      (B.set_up w).number ≡ 0 → has_password (B.shows d).settings ≡ true
      → AllAlike p xs ys
      → IsNeverMatched B p password d unopened xs → IsNeverMatched B p password d unopened ys
      → QuietOnceApart B p d d xs ys
      → HeardAlike B p d d xs ys
