-- Of a session: its own bytes get what receiving gives, and those of another are refused. It begins with its opening,
-- lasts until its connection is closed, and comes back by no call but an opening with its number.
-- Assumes nothing.
use Rattle.std.proofs.Common.{arith, ℕ, ◌≤◌, ◌<◌, ◌≡◌, refl, sym, ap, ◌∙◌, Bool, true, false, ◌&&◌}
use Rattle.std.proofs.Common.{List, [], ◌∷◌, length, ◌⊎◌, ◌==◌, eqb-true, eq-eqb}
use Rattle.text.specs.Outcomes.{CallResult, refused_as, call_number}
use Rattle.text.specs.Rows.{first_of, numbers_of}
use Rattle.text.proofs.Choices.{if_yes, both_left, both_right}
use Rattle.record.specs.declared.refusal.Refusal.{Refusal}
use Rattle.record.specs.Refusals.{refusal_number}
use Rattle.record.specs.Limits.{places_count}
use Rattle.record.specs.Legal.{is_legal}
use Rattle.record.specs.Record.{closed}
use Rattle.record.specs.Places.{connection_at, is_closed, lowest_closed}
use Rattle.record.specs.declared.types.Connection.{Connection}
use Rattle.record.specs.declared.types.Device.{Device}
use Rattle.record.proofs.Spelt.{closed_spelt}
use Rattle.clock.proofs.ConnectionsAge.{untimed_stays}
use Rattle.device.specs.Calls.{reply_room, new_connection, received_at, closed_by}
use Rattle.device.proofs.Cases.{received_by, closed_by_lem, greeted_by_lem}
use Rattle.device.proofs.Numbers.{received_number, closed_number}
use Rattle.ours.specs.Board.{Given, Lent, ours, given_in, received_in}
use Rattle.demands.specs.Calls.{Call, opens, closes, receives, passes, faults, reports, enables, after, run}
use Rattle.demands.specs.Beside.{ClosedOr}
use Rattle.demands.proofs.CallsDo.{call_by, connection_at-served, connection_left, IsServed}
use Rattle.demands.proofs.CallsKeep.{random_kept}
use Rattle.board.specs.Sessions.{is_session, session_rows, session_received, session_closed}
use Rattle.board.specs.Sessions.{is_live, is_none_of, are_none_of}

-- the connection is live, and of that number
abbrev is_of : ℕ → Connection → Bool
is_of r c = is_live c && c.random == r

module _ (d : Device) (p r : ℕ) where
  module _ (bs m : List ℕ) where
    abbrev came : CallResult Refusal ℕ Device
    came = received_at d p bs (length m)

    abbrev refused_lent : ℕ → Lent Device
    refused_lent n = record { number = n; taken = 0; length = 0; memory = m; device = d }

    came_refused : (e : Refusal) → (refusal_number e ≡ 0 → ⊥) → call_number refusal_number came ≡ refusal_number e
        → received_in (refused_as d e) m ≡ received_in came m
    came_refused e some =
        received_by d p bs (length m)
        (λ c. call_number refusal_number c ≡ refusal_number e → received_in (refused_as d e) m ≡ received_in c m)
        (λ k other same. ap refused_lent (sym same)) (λ h s t c same. absurd (some (sym same)))

    pub own_bytes : is_session d p r ≡ true → session_received d p r bs m ≡ ours.receive d p bs m
    own_bytes its = grind (arith, came_refused, received_number)

    pub session_number : (session_received d p r bs m).number
        ≡ first_of (numbers_of refusal_number (session_rows d p r (length m)))
    session_number = grind (arith, received_number)

    pub others_bytes : is_session d p r ≡ false
        → let t = session_received d p r bs m in
        (t.number ≡ 0 → ⊥) × (t.taken ≡ 0) × (t.length ≡ 0) × (t.memory ≡ m) × (t.device ≡ d)
    others_bytes other = grind arith

    pub others_number : is_session d p r ≡ false → is_legal d ≡ true → reply_room ≤ length m → p < places_count
        → (session_received d p r bs m).number ≡ 4
    others_number other legal enough there = grind arith

  abbrev refused_given : ℕ → Given Device
  refused_given n = record { number = n; device = d }

  closing_refused : (e : Refusal) → (refusal_number e ≡ 0 → ⊥)
      → call_number refusal_number (closed_by d p) ≡ refusal_number e
      → refused_given (refusal_number e) ≡ given_in refusal_number (closed_by d p)
  closing_refused e some =
      closed_by_lem d p
      (λ c. call_number refusal_number c ≡ refusal_number e
      → refused_given (refusal_number e) ≡ given_in refusal_number c)
      (λ k other same. ap refused_given (sym same)) (λ h t c same. absurd (some (sym same)))

  pub own_closing : is_session d p r ≡ true → session_closed d p r ≡ ours.closing d p
  own_closing its = grind (arith, closing_refused, closed_number)

  pub others_closing : is_session d p r ≡ false
      → ((session_closed d p r).number ≡ 0 → ⊥) × ((session_closed d p r).device ≡ d)
  others_closing other = grind arith

-- ---- how it begins and ends

closed_is_none : (r : ℕ) → is_of r closed ≡ false
closed_is_none r = ap (λ (k : Connection). is_of r k) closed_spelt

place_closed_is_none : (r : ℕ) (c : Connection) → is_closed c ≡ true → is_of r c ≡ false
place_closed_is_none r c e = grind arith

module _ (d : Device) where
  new_is_of : (s r : ℕ) → is_of r (new_connection d.settings s) ≡ (s == r)
  new_is_of s r = greeted_by_lem d.settings s (λ g k. is_of r k ≡ (s == r)) refl refl

  pub opened_is_session : (s r : ℕ) (m : List ℕ) → (ours.opening d s m).number ≡ 0
      → is_session (ours.opening d s m).device (ours.place_opened d s m) r ≡ (s == r)
  opened_is_session s r m =
      call_by d (opens s m) (λ g e. g.number ≡ 0 → is_session e g.place r ≡ (s == r)) (λ n some z. absurd (some z))
      (λ h z. ap (is_of r) (connection_at-served d (opens s m) (lowest_closed d.connections) h
      ∙ if_yes _ _ (eq-eqb (lowest_closed d.connections) (lowest_closed d.connections) refl)) ∙ new_is_of s r)

  pub closed_is_session : (p r : ℕ) → (ours.closing d p).number ≡ 0
      → is_session (ours.closing d p).device p r ≡ false
  closed_is_session p r =
      call_by d (closes p) (λ g e. g.number ≡ 0 → is_session e p r ≡ false) (λ n some z. absurd (some z))
      (λ h z. ap (is_of r) (connection_at-served d (closes p) p h ∙ if_yes _ _ (eq-eqb p p refl)) ∙ closed_is_none r)

  module _ (p r : ℕ) where
    -- whatever call comes on a live connection, it is closed then or of the same number
    kept_is_of : (k : Connection) → ClosedOr (connection_at d p).random k → is_live (connection_at d p) ≡ true
        → (is_closed k ≡ true) ⊎ (is_of r k ≡ is_of r (connection_at d p))
    kept_is_of k kept live = grind arith

    pub session_lasts : (c : Call) → is_session d p r ≡ true
        → (is_closed (connection_at (after ours d c) p) ≡ true) ⊎ (is_session (after ours d c) p r ≡ true)
    session_lasts c its = grind (arith, random_kept, kept_is_of)

    -- a closed place, where a call leaves it
    module _ (none : is_closed (connection_at d p) ≡ true) where
      left_none : (c : Call) → IsServed d c → is_none_of r c ≡ true → is_of r (connection_left d c p) ≡ false
      left_none (opens s m) h other = grind (arith, new_is_of, place_closed_is_none)
      left_none (closes q) h other = grind (arith, closed_is_none, place_closed_is_none)
      left_none (receives q bs m) h other = grind (arith, place_closed_is_none, eqb-true)
      left_none (passes n) h other = grind (arith, place_closed_is_none, untimed_stays)
      left_none (faults m) h other = place_closed_is_none r (connection_at d p) none
      left_none (reports ds) h other = place_closed_is_none r (connection_at d p) none
      left_none (enables k m) h other = place_closed_is_none r (connection_at d p) none

      closed_stays_none : (c : Call) → is_none_of r c ≡ true → is_session (after ours d c) p r ≡ false
      closed_stays_none c other =
          call_by d c (λ g e. is_session e p r ≡ false) (λ n some. place_closed_is_none r (connection_at d p) none)
          (λ h. ap (is_of r) (connection_at-served d c p h) ∙ left_none c h other)

    live_stays_none : is_live (connection_at d p) ≡ true → is_session d p r ≡ false → (c : Call)
        → is_session (after ours d c) p r ≡ false
    live_stays_none live other c = grind (arith, random_kept, kept_is_of, place_closed_is_none)

    pub stays_none : (c : Call) → is_none_of r c ≡ true → is_session d p r ≡ false
        → is_session (after ours d c) p r ≡ false
    stays_none c none other = grind (arith, closed_stays_none, live_stays_none)

pub over_for_good : (d : Device) (p r : ℕ) (cs : List Call) → is_session d p r ≡ false → are_none_of r cs ≡ true
    → is_session (run ours d cs) p r ≡ false
over_for_good d p r [] over none = over
over_for_good d p r (c ∷ cs) over none =
    over_for_good (after ours d c) p r cs (stays_none d p r c (both_left (is_none_of r c) (are_none_of r cs) none) over)
    (both_right (is_none_of r c) (are_none_of r cs) none)

pub older_bytes : (d : Device) (p r : ℕ) (cs : List Call) (bs m : List ℕ)
    → is_session d p r ≡ false → are_none_of r cs ≡ true
    → let e = run ours d cs in
    let t = session_received e p r bs m in
    (t.number ≡ 0 → ⊥) × (t.taken ≡ 0) × (t.length ≡ 0) × (t.memory ≡ m) × (t.device ≡ e)
older_bytes d p r cs bs m over none = others_bytes (run ours d cs) p r bs m (over_for_good d p r cs over none)

pub place_closed_is_session : (d : Device) (p r : ℕ) → is_closed (connection_at d p) ≡ true → is_session d p r ≡ false
place_closed_is_session d p r e = place_closed_is_none r (connection_at d p) e

pub ruleset naming = (own_bytes, own_closing, session_number, others_bytes, others_number, others_closing)

pub ruleset standing = (opened_is_session, session_lasts, place_closed_is_session, over_for_good, older_bytes)
