-- Someone without the password at one place, whoever makes which call (RULES, Places): at each moment the record is
-- legal, his place stands as proofs/Sessions.antt says, and what is received there leaves the own part; from a fresh
-- set-up, or a closed place, on.
--   Outside w p s d         place p of the legal device d, which has the password w, stands so with the session s
--   GoesOn w p s d c        so it is after the call c, with the session that is noted
-- Assumes nothing.
use Rattle.std.proofs.Common.{arith, ℕ, zero, suc, ◌≡◌, refl, sym, ap, subst, ◌∙◌, Bool, true, false, List, ◌++◌, take}
use Rattle.std.proofs.Common.{length, slice_index_or, replicate, ◌==◌, eqb-true, if◌then◌else◌}
use Rattle.text.specs.Words.{over}
use Rattle.std.proofs.lemmas.Bool.{false≢true, eqb-false}
use Rattle.text.proofs.Choices.{if_all}
use Rattle.record.specs.Limits.{phase_closed, places_count}
use Rattle.record.specs.Legal.{is_legal}
use Rattle.record.specs.Record.{closed}
use Rattle.record.specs.Places.{no_connection, connection_at, is_closed}
use Rattle.record.specs.Wanted.{Wanted}
use Rattle.record.specs.declared.types.Connection.{Connection}
use Rattle.record.specs.declared.types.Own.{Own}
use Rattle.record.specs.declared.types.Device.{Device}
use Rattle.record.proofs.Spelt.{closed_spelt}
use Rattle.record.proofs.Started.{set_up_legal, set_up_started, started_parts}
use Rattle.device.specs.Receiving.{Taken, set_up_password}
use Rattle.device.specs.Calls.{has_password, new_connection}
use Rattle.device.proofs.Cases.{takes, secured_greeted}
use Rattle.ours.specs.Board.{ours}
use Rattle.demands.specs.Calls.{Call, opens, closes, receives, passes, after}
use Rattle.demands.specs.Outsider.{Session, opened_with, unopened, noted_of, noted, is_matched, is_received_at, silence}
use Rattle.demands.proofs.KeepsRunning.{stays_legal, over_front}
use Rattle.demands.proofs.Sessions.{Standing, stands_closed, awaits, nothing_yet, answered_so, closed_stands, heard}
use Rattle.demands.proofs.Sessions.{stands_on, stands_later}
use Rattle.demands.proofs.CallsDo.{unserved, IsServed, gives, own_then, connection_left, call_by, connection_at-served}
use Rattle.demands.proofs.CallsDo.{settings_stay}

pub record Outside (password : List ℕ) (p : ℕ) (s : Session) (d : Device) : Type 0 where
  pub legal : is_legal d ≡ true
  pub secured : has_password d.settings ≡ true
  pub known : set_up_password d.settings ≡ password
  pub standing : Standing s (connection_at d p)

module _ (p : ℕ) (s : Session) where
  nothing_noted : (n : ℕ) → (n ≡ 0 → ⊥) → (c : Call) → noted_of p s c (unserved n c) ≡ s
  nothing_noted n some c = grind arith

-- two sessions and the connections that stand with them, chosen together
either_stands : {s k : Session} {c e : Connection} (t : Bool) → Standing s c → Standing k e
    → Standing (if t then s else k) (if t then c else e)
either_stands t a b = grind arith

module _ (password : List ℕ) (p : ℕ) (s : Session) (d : Device) (out : Outside password p s d) where
  abbrev NotMatched : Session → Type 0
  NotMatched k = is_matched password k ≡ false

  record GoesOn (c : Call) (k : Session) (e : Device) : Type 0 where
    pub standing : Standing k (connection_at e p)
    pub kept : is_received_at p c ≡ true → e.own ≡ d.own

  greeted_stands : (random : ℕ) → Standing (opened_with random) (new_connection d.settings random)
  greeted_stands random = grind (arith, secured_greeted, awaits, nothing_yet)

  abbrev KeptIf : Bool → Own → Type 0
  KeptIf here o = here ≡ true → o ≡ d.own

  -- what is received at a place, his or another one
  bytes_stand : (q : ℕ) (bs m : List ℕ) → IsServed d (receives q bs m)
      → NotMatched (noted_of p s (receives q bs m) (gives d (receives q bs m)))
      → Standing (noted_of p s (receives q bs m) (gives d (receives q bs m))) (connection_left d (receives q bs m) p)
      × KeptIf (q == p) (takes d q bs).ended.own
  bytes_stand q bs m h = by (q == p) refl
    where
      t : Taken
      t = takes d q bs

      next : Session
      next = record {
        random = s.random;
        taken = s.taken ++ take t.taken bs;
        replied = s.replied ++ take (length t.ended.reply) (over t.ended.reply m);
      }

      same : heard s bs t ≡ next
      same = (λ i. record {
        random = s.random;
        taken = s.taken ++ take t.taken bs;
        replied = s.replied ++ sym (over_front t.ended.reply m) i;
      })

      by : (here : Bool) → (q == p) ≡ here → NotMatched (if here then next else s)
          → Standing (if here then next else s) (if here then t.ended.connection else connection_at d p)
          × KeptIf here t.ended.own
      by true e u =
          let there = subst (λ (k : ℕ). Standing s (connection_at d k)) (sym (eqb-true q p e)) out.standing in
          let live = eqb-false (connection_at d q).phase phase_closed h.there.1 in
          let on = stands_on d.settings d.own (connection_at d q) s bs live there
          ((λ i. is_matched (out.known i) (same i)) ∙ u) in
          (subst (λ (k : Session). Standing k t.ended.connection) same on.standing, λ z. on.own)
      by false e u = (out.standing, λ z. absurd (false≢true z))

  then_stands : (c : Call) → IsServed d c → NotMatched (noted_of p s c (gives d c))
      → Standing (noted_of p s c (gives d c)) (connection_left d c p) × KeptIf (is_received_at p c) (own_then d c)
  then_stands (opens random m) h u = grind (arith, either_stands, greeted_stands)
  then_stands (closes q) h u =
      (if_all (Standing s) (q == p) (closed_stands s (answered_so out.standing)) out.standing, λ z. refl)
  then_stands (receives q bs m) h u = bytes_stand q bs m h u
  then_stands (passes n) h u = (stands_later n s (connection_at d p) out.standing, λ z. absurd (false≢true z))
  then_stands c h u = (out.standing, λ z. absurd (false≢true z))

  goes_on : (c : Call) → NotMatched (noted ours p d s c) → GoesOn c (noted ours p d s c) (after ours d c)
  goes_on c =
      call_by d c (λ g e. NotMatched (noted_of p s c g) → GoesOn c (noted_of p s c g) e)
      (λ n some u. record { standing = rw (nothing_noted p s n some c) out.standing; kept = λ z. refl })
      (λ h u.
      let stands = then_stands c h u in
      record {
        standing = subst (Standing (noted_of p s c (gives d c))) (sym (connection_at-served d c p h)) stands.0;
        kept = stands.1;
      })

  pub received_keeps : (c : Call) → NotMatched (noted ours p d s c) → is_received_at p c ≡ true
      → (after ours d c).own ≡ d.own
  received_keeps c u = (goes_on c u).kept

  pub outside_after : (c : Call) → NotMatched (noted ours p d s c)
      → Outside password p (noted ours p d s c) (after ours d c)
  outside_after c u = grind (arith, stays_legal, settings_stay, goes_on)

-- a place that is closed, and was not opened yet
pub unopened_outside : (d : Device) (p : ℕ) → is_legal d ≡ true → has_password d.settings ≡ true
    → is_closed (connection_at d p) ≡ true → Outside (set_up_password d.settings) p unopened d
unopened_outside d p legal secured free = record {
  legal = legal;
  secured = secured;
  known = refl;
  standing = stands_closed (eqb-true (connection_at d p).phase phase_closed free) silence;
}

-- every place of a fresh set-up
pub fresh_outside : (w : Wanted) (p : ℕ) → (ours.set_up w).number ≡ 0
    → let d = (ours.set_up w).device in
    has_password d.settings ≡ true → Outside (set_up_password d.settings) p unopened d
fresh_outside w p accepted secured =
    unopened_outside (ours.set_up w).device p (set_up_legal w accepted) secured
    (ap (λ (e : Device). is_closed (connection_at e p)) (set_up_started w accepted ∙ started_parts w)
    ∙ each_closed places_count p)
  where
    each_closed : (n k : ℕ) → is_closed (slice_index_or (replicate n closed) k no_connection) ≡ true
    each_closed zero k = refl
    each_closed (suc n) zero = ap is_closed closed_spelt
    each_closed (suc n) (suc k) = each_closed n k
