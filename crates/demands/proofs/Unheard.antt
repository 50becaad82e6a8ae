-- An outsider has no say (RULES, Places), of our board: call by call, the two runs leave records that are the same
-- but for his place, and each other call gives the same in both. What holds at the end of two such runs holds at
-- every moment of them: what came before is two such runs, on any board.
-- Assumes nothing.
use Rattle.std.proofs.Common.{arith, ℕ, ◌≡◌, refl, Bool, true, false, not, List, ◌∷◌, ◌==◌, eqb-true, eq-eqb, zero, suc}
use Rattle.std.proofs.Common.{[], take, if◌then◌else◌}
use Rattle.std.proofs.lemmas.Bool.{false≢true, eqb-false}
use Rattle.text.proofs.Choices.{both_left, both, both_right}
use Rattle.record.specs.declared.types.Device.{Device}
use Rattle.device.specs.Receiving.{set_up_password}
use Rattle.ours.specs.Board.{ours, Board}
use Rattle.demands.specs.Calls.{Call, receives, after, Gave, gave_by}
use Rattle.demands.specs.Outsider.{Session, unopened, noted, is_matched, IsNeverMatched}
use Rattle.demands.specs.Unheard.{Alike, same_call, other_bytes, AllAlike, no_calls, one_more, opens_none, phase_at}
use Rattle.demands.specs.Unheard.{is_opening, QuietOnceApart, is_at_place, SameElsewhere, HeardAlike, Unheard}
use Rattle.demands.proofs.CallsDo.{own_left, settings_stay}
use Rattle.demands.proofs.CallsAlike.{alike_elsewhere}
use Rattle.demands.proofs.CallsKeep.{others_untouched}
use Rattle.demands.proofs.Outside.{Outside, outside_after, received_keeps, fresh_outside}
use Rattle.record.specs.Wanted.{Wanted}
use Rattle.device.specs.Calls.{has_password}

-- ---- one call of each run

-- a call at his place touches nothing else
his_call : (password : List ℕ) (p : ℕ) (s : Session) (d : Device) → Outside password p s d → (c : Call)
    → is_at_place p c ≡ true → is_matched password (noted ours p d s c) ≡ false
    → SameElsewhere ours p d (after ours d c)
his_call password p s d out c at u = grind (arith, settings_stay, own_left, others_untouched, eqb-true, received_keeps)

module _ (password : List ℕ) (p : ℕ) (s t : Session) (d e : Device) (same : SameElsewhere ours p d e)
    (out-d : Outside password p s d) (out-e : Outside password p t e) where
  record Stepped (a b : Call) : Type 0 where
    at_once : is_at_place p a ≡ is_at_place p b
    got : is_at_place p a ≡ false → gave_by ours d a ≡ gave_by ours e b
    left : SameElsewhere ours p (after ours d a) (after ours e b)

  abbrev NotMatched : Device → Session → Call → Type 0
  NotMatched x k c = is_matched password (noted ours p x k c) ≡ false

  -- each run changed nothing but place p
  his_step : (a b : Call) → is_at_place p a ≡ true → is_at_place p b ≡ true → NotMatched d s a → NotMatched e t b
      → Stepped a b
  his_step a b at at-too u v = grind (arith, his_call)

  step : {a b : Call} (cs : List Call) → Alike p a b
      → ((phase_at ours p d ≡ phase_at ours p e → ⊥) → opens_none (a ∷ cs) ≡ true)
      → NotMatched d s a → NotMatched e t b → Stepped a b
  step cs (other_bytes {bs = bs} {cs = ks} {memory = m}) quiet u v =
      his_step (receives p bs m) (receives p ks m) (eq-eqb p p refl) (eq-eqb p p refl) u v
  step cs (same_call {c = c}) quiet u v = by_place (is_at_place p c) refl
    where
      -- who opens finds both in one phase
      phases : (t : Bool) → (phase_at ours p d == phase_at ours p e) ≡ t → is_opening c ≡ true
          → phase_at ours p d ≡ phase_at ours p e
      phases true z opening = eqb-true (phase_at ours p d) (phase_at ours p e) z
      phases false z opening =
          let none = both_left (not (is_opening c)) (opens_none cs)
          (quiet (eqb-false (phase_at ours p d) (phase_at ours p e) z)) in
          absurd (false≢true (rw opening at none))

      by_place : (at : Bool) → is_at_place p c ≡ at → Stepped c c
      by_place true at = his_step c c at at u v
      by_place false at =
          let alike = alike_elsewhere d e out-d.legal out-e.legal p same c at (phases _ refl) in
          record { at_once = refl; got = λ z. alike.got; left = alike.left }

-- ---- the runs

-- two lists, each led by one more unless it is left out
listed : {g h : Gave} {xs ys : List Gave} (out away : Bool) → out ≡ away → (out ≡ false → g ≡ h) → xs ≡ ys
    → (if out then xs else g ∷ xs) ≡ (if away then ys else h ∷ ys)
listed out away at got rest = grind arith

module _ (password : List ℕ) (p : ℕ) where
  runs_alike : {xs ys : List Call} → AllAlike p xs ys → (s t : Session) (d e : Device) → SameElsewhere ours p d e
      → Outside password p s d → Outside password p t e
      → IsNeverMatched ours p password d s xs → IsNeverMatched ours p password e t ys → QuietOnceApart ours p d e xs ys
      → HeardAlike ours p d e xs ys
  runs_alike no_calls s t d e same out-d out-e u v quiet = record { got = refl; left = same }
  runs_alike (one_more {a = a} {b = b} {xs = xs} {ys = ys} alike more) s t d e same out-d out-e u v quiet =
      let one = step password p s t d e same out-d out-e xs alike quiet.0 u.0 v.0 in
      let rest = runs_alike more (noted ours p d s a) (noted ours p e t b) (after ours d a) (after ours e b) one.left
      (outside_after password p s d out-d a u.0) (outside_after password p t e out-e b v.0) u.1 v.1 quiet.1 in
      record { got = listed (is_at_place p a) (is_at_place p b) one.at_once one.got rest.got; left = rest.left }

pub ours_unheard : Unheard ours
ours_unheard = grind (arith, fresh_outside, runs_alike)

alike_before : {p : ℕ} {xs ys : List Call} (n : ℕ) → AllAlike p xs ys → AllAlike p (take n xs) (take n ys)
alike_before zero all = no_calls
alike_before (suc n) no_calls = no_calls
alike_before (suc n) (one_more one more) = one_more one (alike_before n more)

none_before : (n : ℕ) (cs : List Call) → opens_none cs ≡ true → opens_none (take n cs) ≡ true
none_before zero cs h = refl
none_before (suc n) [] h = refl
none_before (suc n) (c ∷ cs) h = both (both_left _ _ h) (none_before n cs (both_right _ _ h))

module _ {R : Type 0} (B : Board R) (p : ℕ) where
  never_before : (password : List ℕ) (n : ℕ) (d : R) (s : Session) (cs : List Call)
      → IsNeverMatched B p password d s cs → IsNeverMatched B p password d s (take n cs)
  never_before password zero d s cs u = tt
  never_before password (suc n) d s [] u = tt
  never_before password (suc n) d s (c ∷ cs) u =
      (u.0, never_before password n (after B d c) (noted B p d s c) cs u.1)

  quiet_before : (n : ℕ) (d e : R) (xs ys : List Call) → QuietOnceApart B p d e xs ys
      → QuietOnceApart B p d e (take n xs) (take n ys)
  quiet_before zero d e xs ys q = tt
  quiet_before (suc n) d e [] ys q = tt
  quiet_before (suc n) d e (a ∷ xs) [] q = tt
  quiet_before (suc n) d e (a ∷ xs) (b ∷ ys) q =
      ((λ apart. none_before (suc n) (a ∷ xs) (q.0 apart)), quiet_before n (after B d a) (after B e b) xs ys q.1)

  -- nobody opens at all
  pub nobody_opens : (d e : R) (xs ys : List Call) → opens_none xs ≡ true → QuietOnceApart B p d e xs ys
  nobody_opens d e [] ys h = tt
  nobody_opens d e (a ∷ xs) [] h = tt
  nobody_opens d e (a ∷ xs) (b ∷ ys) h =
      ((λ apart. h), nobody_opens (after B d a) (after B e b) xs ys (both_right _ _ h))

  pub unheard_throughout : Unheard B → (w : Wanted) (xs ys : List Call)
      → let d = (B.set_up w).device in
      let password = set_up_password (B.shows d).settings in
      (B.set_up w).number ≡ 0 → has_password (B.shows d).settings ≡ true
      → AllAlike p xs ys
      → IsNeverMatched B p password d unopened xs → IsNeverMatched B p password d unopened ys
      → QuietOnceApart B p d d xs ys
      → (n : ℕ) → HeardAlike B p d d (take n xs) (take n ys)
  unheard_throughout h w xs ys accepted secured all u v q n =
      let d = (B.set_up w).device in
      let password = set_up_password (B.shows d).settings in
      h.outsider_unheard w p (take n xs) (take n ys) accepted secured (alike_before n all)
      (never_before password n d unopened xs u) (never_before password n d unopened ys v) (quiet_before n d d xs ys q)
