-- Opening, closing and receiving keep a record legal, a law a part.
-- Assumes nothing.
use Rattle.std.proofs.Common.{ℕ, ◌≤◌, ◌<◌, ◌≡◌, sym, subst, true, false, List, set, arith, ◌==◌}
use Rattle.std.proofs.lemmas.List.{set-get_or}
use Rattle.std.proofs.lemmas.Bool.{eqb-false}
use Rattle.text.specs.Outcomes.{CallResult}
use Rattle.text.proofs.Choices.{if_all, if_by}
use Rattle.record.specs.Limits.{phase_closed, phase_awaiting, phase_open, phase_failed, places_count}
use Rattle.record.specs.Updates.{with_line}
use Rattle.record.specs.Legal.{is_collecting, is_settings, is_own, is_connection, is_legal}
use Rattle.record.specs.Places.{no_connection, connection_at, with_place, is_closed}
use Rattle.record.specs.Record.{closed}
use Rattle.record.specs.declared.refusal.Refusal.{Refusal}
use Rattle.record.specs.declared.types.Settings.{Settings}
use Rattle.record.specs.declared.types.Own.{Own}
use Rattle.record.specs.declared.types.CollectedLine.{CollectedLine}
use Rattle.record.specs.declared.types.Connection.{Connection}
use Rattle.record.specs.declared.types.Device.{Device}
use Rattle.record.proofs.LegalTold.{legal_settings, legal_own, legal_connections, legal_connection, legal_by_parts}
use Rattle.record.proofs.ConnectionsTold.{placed_legal}
use Rattle.record.proofs.ConnectionTold.{zero_age, closed_legal}
use Rattle.record.proofs.FactsTold.{connection_is}
use Rattle.record.specs.Facts.{IsConnection}
use Rattle.stream.proofs.LegalLines.{LegalLine, empty_legal, gathered_legal}
use Rattle.meaning.proofs.Done.{done_legal}
use Rattle.device.specs.Ready.{IsReady}
use Rattle.device.specs.Answering.{line_answer}
use Rattle.device.specs.Receiving.{phase_start, line_ended, keeping_line, taken_in}
use Rattle.device.specs.Calls.{has_password, new_connection, received_at, opened_by, closed_by}
use Rattle.device.proofs.Cases.{received_by, opened_by_lem, closed_by_lem}
use Rattle.device.proofs.LineCases.{ended_by, taken_by}

-- a phase is shut, failed or collects
pub collecting : (p : ℕ) → p ≤ phase_failed → (p ≡ phase_closed → ⊥) → (p ≡ phase_failed → ⊥) → is_collecting p ≡ true
collecting p h g e = grind arith

-- connections
module _ (c : Connection) where
  pub is_connection-phase_start : (phase : ℕ) → phase ≤ phase_failed → (phase ≡ phase_closed → ⊥)
      → is_connection (phase_start c phase) ≡ true
  is_connection-phase_start phase h n = grind (arith, empty_legal, connection_is, zero_age)

  module _ (legal : is_connection c ≡ true) where
    abbrev known : IsConnection c
    known = (connection_is c).0 legal

    pub line_legal : LegalLine c.phase c.line
    line_legal = record { kept = known.line; flag = known.overlong; held = known.held }

    is_connection-with_line : (l : CollectedLine) → LegalLine c.phase l → is_connection (with_line c l) ≡ true
    is_connection-with_line l p = grind (arith, connection_is)

    -- what is kept of a line that is legal where lines are collected
    pub is_connection-keeping_line : (l : CollectedLine) → (c.phase ≡ phase_closed → ⊥) →
        (is_collecting c.phase ≡ true → LegalLine c.phase l)
        → is_connection (keeping_line c l) ≡ true
    unfolding keeping_line
    is_connection-keeping_line l n p =
        if_by (λ (k : Connection). is_connection k ≡ true) (c.phase == phase_failed) (λ f. legal) (λ f.
        is_connection-with_line l (p (collecting c.phase known.phase n (eqb-false c.phase phase_failed f))))

pub parts_ready : (d : Device) → is_legal d ≡ true → IsReady d.settings d.own
parts_ready d legal = record { settings = legal_settings d legal; own = legal_own d legal }

-- the parts of receiving
module _ (s : Settings) (o : Own) (settings : is_settings s ≡ true) (own : is_own s o ≡ true) where
  pub is_own-line_answer : (l : List ℕ) → is_own s (line_answer s o l).own ≡ true
  unfolding line_answer
  is_own-line_answer l = grind (arith, if_all, done_legal)

  module _ (c : Connection) where
    pub is_own-line_ended : (l : CollectedLine) → is_own s (line_ended s o c l).own ≡ true
    is_own-line_ended l =
        ended_by s o c l (λ e. is_own s e.own ≡ true) (λ p m. own) (λ p m. is_own-line_answer _)
        (λ p m. is_own-line_answer _) (λ p m. own) (λ p q. own)

    pub is_own-taken_in : (bs : List ℕ) → is_own s (taken_in s o c bs).ended.own ≡ true
    is_own-taken_in bs =
        taken_by s o c bs (λ t. is_own s t.ended.own ≡ true) (λ e. is_own-line_ended _) (λ e. own)

module _ (s : Settings) (o : Own) (c : Connection) (legal : is_connection c ≡ true) where
  pub is_connection-line_ended : (l : CollectedLine) → is_connection (line_ended s o c l).connection ≡ true
  unfolding line_ended
  is_connection-line_ended l = grind (arith, is_connection-phase_start)

  pub is_connection-taken_in : (bs : List ℕ) → (c.phase ≡ phase_closed → ⊥)
      → is_connection (taken_in s o c bs).ended.connection ≡ true
  is_connection-taken_in bs n =
      taken_by s o c bs (λ t. is_connection t.ended.connection ≡ true) (λ e. is_connection-line_ended _)
      (λ e. is_connection-keeping_line c legal _ n (λ k. gathered_legal c.phase c.line bs k (line_legal c legal)))

pub greeted_legal : (s : Settings) (r : ℕ) → is_connection (new_connection s r) ≡ true
unfolding new_connection
greeted_legal s r =
    let c : Connection = new_connection s r in
    if_all (λ (p : ℕ). is_connection (phase_start c p) ≡ true) (has_password s)
    (is_connection-phase_start c phase_awaiting (omega arith) (λ z. omega arith))
    (is_connection-phase_start c phase_open (omega arith) (λ z. omega arith))

-- the calls
module _ (d : Device) (legal : is_legal d ≡ true) where
  abbrev LegalAfter : {A : Type 0} → CallResult Refusal A Device → Type 0
  LegalAfter r = is_legal r.leaves ≡ true

  -- the device with a legal own part, and a legal connection at a place
  placed : (o : Own) (p : ℕ) (c : Connection) → is_own d.settings o ≡ true → is_connection c ≡ true
      → is_legal (with_place d o p c) ≡ true
  placed o p c own one = grind (arith, legal_by_parts, legal_settings, placed_legal, legal_connections)

  -- what each call leaves at its place, as the code spells it
  pub closed_kept : (p : ℕ) → is_legal (with_place d d.own p closed) ≡ true
  closed_kept p = placed d.own p closed (legal_own d legal) closed_legal

  pub greeted_kept : (p r : ℕ) → is_legal (with_place d d.own p (new_connection d.settings r)) ≡ true
  greeted_kept p r = placed d.own p _ (legal_own d legal) (greeted_legal d.settings r)

  pub taken_kept : (p : ℕ) (bs : List ℕ) → p < places_count → is_closed (connection_at d p) ≡ false
      → let t = taken_in d.settings d.own (connection_at d p) bs in
      is_legal (with_place d t.ended.own p t.ended.connection) ≡ true
  taken_kept p bs there live =
      let k = connection_at d p in
      placed _ p _ (is_own-taken_in d.settings d.own (legal_settings d legal) (legal_own d legal) k bs)
      (is_connection-taken_in d.settings d.own k (legal_connection d legal p there) bs (eqb-false k.phase phase_closed
      live))

  -- the same, where the connection is lent from its place
  module _ (p : ℕ) (bs : List ℕ) (o : Own) (c : Connection) where
    abbrev LegalBack : Device → Type 0
    LegalBack e =
        let t = taken_in e.settings e.own (connection_at e p) bs in
        o ≡ t.ended.own → c ≡ t.ended.connection → is_legal (with_place e o p c) ≡ true

    pub taken_back : p < places_count → is_closed (connection_at d p) ≡ false
        → LegalBack (record d { connections = set d.connections p (connection_at d p) })
    taken_back there live =
        subst LegalBack (λ i. record d { connections = sym (set-get_or d.connections p no_connection) i })
        (λ e f. subst (λ (k : Device). is_legal k ≡ true) (λ i. with_place d (sym e i) p (sym f i))
        (taken_kept p bs there live))

  pub receiving_legal : (p : ℕ) (bs : List ℕ) (room : ℕ) → is_legal (received_at d p bs room).leaves ≡ true
  receiving_legal p bs room =
      received_by d p bs room LegalAfter (λ e some. legal)
      (λ h s t c. taken_kept p bs t c)

  pub opening_legal : (r room : ℕ) → is_legal (opened_by d r room).leaves ≡ true
  opening_legal r room =
      opened_by_lem d r room LegalAfter (λ e some. legal)
      (λ h s c. greeted_kept _ r)

  pub closing_legal : (p : ℕ) → is_legal (closed_by d p).leaves ≡ true
  closing_legal p =
      closed_by_lem d p LegalAfter (λ e some. legal) (λ h t c. closed_kept p)
