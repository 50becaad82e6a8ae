-- Handed on until all is taken, a stream gives the same reply bytes and end state however it is cut (RULES,
-- Connection): `same_however_cut` holds of every machine, and receiving at a place is one, seen through the whole
-- record, whatever the other places hold (RULES, Places).
--   Live s m               the states in which bytes are taken: legal, and not closed
--   receives room p d bs   what the call leaves of the whole record
-- Assumes nothing.
use Rattle.std.proofs.Common.{ℕ, ◌≤◌, ◌<◌, ◌≡◌, refl, sym, ap, ◌∙◌, true, false, List, arith, ◌==◌, ne_eqb}
use Prim.Native.Char.{code}
use Rattle.text.specs.Outcomes.{CallResult, number_answered}
use Rattle.text.proofs.Choices.{if_all}
use Rattle.record.specs.Limits.{places_count, phase_closed, phase_failed}
use Rattle.record.specs.Legal.{is_settings, is_own, is_connection, is_legal}
use Rattle.record.specs.Places.{connection_at, with_place, is_closed}
use Rattle.record.specs.declared.refusal.Refusal.{Refusal}
use Rattle.record.specs.declared.types.Settings.{Settings}
use Rattle.record.specs.declared.types.Own.{Own}
use Rattle.record.specs.declared.types.CollectedLine.{CollectedLine}
use Rattle.record.specs.declared.types.Connection.{Connection}
use Rattle.record.specs.declared.types.Device.{Device}
use Rattle.record.proofs.LegalTold.{legal_settings, legal_own, legal_connections, legal_connection, legal_places}
use Rattle.record.proofs.LegalTold.{legal_by_parts}
use Rattle.record.proofs.ConnectionsTold.{placed_legal, placed_here, with_place-with_place, with_place-connection_at}
use Rattle.record.proofs.FactsTold.{connection_is}
use Rattle.stream.specs.Machine.{Took, run_over, one_call, handed_parts, stream_of}
use Rattle.stream.proofs.LegalLines.{collected_legal}
use Rattle.stream.proofs.SameHoweverCut.{out_through, took_through, calls_run, same_however_cut}
use Rattle.device.specs.Receiving.{line_ended, keeping_line, taken_in}
use Rattle.device.specs.Calls.{reply_room, accepted_taken, received_at}
use Rattle.device.proofs.Cases.{received_taken}
use Rattle.device.proofs.LineCases.{ended_by}
use Rattle.device.proofs.Legal.{line_legal, is_connection-keeping_line, is_own-line_ended, is_connection-line_ended}
use Rattle.device.proofs.ReceivingAsMachine.{State, state_of, collects, ends, takes_in-state_of}

-- the states in which bytes are taken
pub record Live (s : Settings) (m : State) : Type 0 where
  pub settings : is_settings s ≡ true
  pub own : is_own s m.own ≡ true
  pub connection : is_connection m.connection ≡ true
  pub live : m.connection.phase ≡ phase_closed → ⊥

keeping_phase : (c : Connection) (l : CollectedLine) → (keeping_line c l).phase ≡ c.phase
unfolding keeping_line
keeping_phase c l = if_all (λ (k : Connection). k.phase ≡ c.phase) (c.phase == phase_failed) refl refl

ended_live : (s : Settings) (o : Own) (c : Connection) (l : CollectedLine) → (c.phase ≡ phase_closed → ⊥)
    → (line_ended s o c l).connection.phase ≡ phase_closed → ⊥
ended_live s o c l n =
    ended_by s o c l (λ e. e.connection.phase ≡ phase_closed → ⊥) (λ p m z. omega arith) (λ p m z. omega arith)
    (λ p m z. omega arith) (λ p m z. omega arith) (λ p q. n)

module _ (s : Settings) where
  ready_collect : (m : State) (b : ℕ) → (b ≡ code "\r" → ⊥) → Live s m → Live s (collects m b)
  ready_collect m b n r = grind (arith, is_connection-keeping_line, collected_legal, line_legal, keeping_phase)

  ready_ends : (m : State) → Live s m → Live s (ends s m).state
  ready_ends m r = grind (arith, is_own-line_ended, is_connection-line_ended, ended_live)

-- on the whole record
abbrev pub as_device_call : CallResult Refusal ℕ Device → Took Device
as_device_call r = record { taken = number_answered r; state = r.leaves; reply = r.bytes }

abbrev pub receives : ℕ → ℕ → Device → List ℕ → Took Device
receives room p d bs = as_device_call (received_at d p bs room)

-- the device d with that state at place p
abbrev pub device_at : Device → ℕ → State → Device
device_at d p m = with_place d m.own p m.connection

abbrev pub parts_at : Device → ℕ → State
parts_at d p = state_of d.own (connection_at d p)

module _ (room : ℕ) (enough : reply_room ≤ room) (p : ℕ) (there : p < places_count) (d : Device)
    (legal : is_legal d ≡ true) where
  abbrev s : Settings
  s = d.settings

  module _ (m : State) (r : Live s m) where
    abbrev e : Device
    e = device_at d p m

    still_legal : is_legal e ≡ true
    still_legal = grind (arith, legal_by_parts, placed_legal, legal_connections)

    here : connection_at e p ≡ m.connection
    here = placed_here d (legal_places d legal) p there m.own m.connection

    unclosed : is_closed (connection_at e p) ≡ false
    unclosed = ap is_closed here ∙ ne_eqb m.connection.phase phase_closed r.live

  receives-device_at : (m : State) (bs : List ℕ) → Live s m
      → receives room p (device_at d p m) bs
      ≡ took_through (device_at d p) (one_call (code "\r") State collects (ends s) m bs)
  receives-device_at m bs r =
      let c = m.connection in
      let t = taken_in s m.own c bs in
      ap as_device_call (received_taken (e m r) p bs room (still_legal m r) enough there (unclosed m r))
      ∙ (λ i. as_device_call (accepted_taken (e m r) p (taken_in s m.own (here m r i) bs)))
      ∙ (λ i. record {
        taken = t.taken;
        state = with_place-with_place d m.own p c t.ended.own t.ended.connection i;
        reply = t.ended.reply;
      })
      ∙ ap (took_through (device_at d p))
      (takes_in-state_of s m.own c bs ((connection_is c).0 r.connection).phase r.live)

  module _ (live : is_closed (connection_at d p) ≡ false) where
    ready_parts : Live s (parts_at d p)
    ready_parts = grind (arith, legal_settings, legal_own, legal_connection)

    pub received_as_run : (ps : List (List ℕ))
        → handed_parts (receives room p) d ps
        ≡ out_through (device_at d p) (run_over (code "\r") State collects (ends s) (parts_at d p) (stream_of ps))
    received_as_run ps =
        ap (λ (k : Device). handed_parts (receives room p) k ps) (sym (with_place-connection_at d p))
        ∙ calls_run (code "\r") State collects (ends s) (Live s) (ready_collect s) (ready_ends s) (device_at d p)
        (receives room p) receives-device_at (parts_at d p) ps ready_parts

    pub received_however_cut : (ps qs : List (List ℕ)) → stream_of ps ≡ stream_of qs
        → handed_parts (receives room p) d ps ≡ handed_parts (receives room p) d qs
    received_however_cut ps qs same =
        ap (λ (k : Device). handed_parts (receives room p) k ps) (sym (with_place-connection_at d p))
        ∙ same_however_cut (code "\r") State collects (ends s) (Live s) (ready_collect s) (ready_ends s) (device_at d p)
        (receives room p) receives-device_at (parts_at d p) ps qs ready_parts same
        ∙ ap (λ (k : Device). handed_parts (receives room p) k qs) (with_place-connection_at d p)
