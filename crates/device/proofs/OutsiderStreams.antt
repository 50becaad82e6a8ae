-- Who does not know the password changes nothing of the projector's own part, however long he goes on and however his
-- bytes are cut: until the connection closes he gets the refusal line once his first line ends, and nothing else
-- (demand 2: "a first line without the matching digest yields the refusal line only").
-- Assumes nothing.
use Rattle.std.proofs.Common.{ℕ, ◌≤◌, ◌<◌, ◌≡◌, refl, sym, ap, ◌∙◌, ◌+◌, Bool, true, List, [], ◌∷◌, arith, drop}
use Rattle.std.proofs.Common.{drop_of_length-le, if◌then◌else◌}
use Prim.Native.Char.{code}
use Rattle.text.proofs.Choices.{if_yes}
use Rattle.pjlink.specs.Forms.{erra_line}
use Rattle.record.specs.Limits.{places_count, phase_awaiting, phase_failed}
use Rattle.record.specs.Updates.{with_line}
use Rattle.record.specs.Legal.{held_most, is_legal}
use Rattle.record.specs.Places.{connection_at}
use Rattle.record.specs.declared.types.Settings.{Settings}
use Rattle.record.specs.declared.types.Own.{Own}
use Rattle.record.specs.declared.types.Connection.{Connection}
use Rattle.record.specs.declared.types.Device.{Device}
use Rattle.record.proofs.LegalTold.{legal_places}
use Rattle.record.proofs.ConnectionsTold.{placed_here, placed_elsewhere}
use Rattle.stream.specs.Collecting.{Gathered}
use Rattle.stream.specs.Collecting.{gathered_from}
use Rattle.stream.specs.Machine.{Out, Took, without_reply, reply_then, run_over, handed_parts, stream_of}
use Rattle.stream.proofs.GatheredOn.{gathered_whole}
use Rattle.stream.proofs.LinesSpelt.{run_none, run_more}
use Rattle.stream.proofs.SameHoweverCut.{out_through, run_called}
use Rattle.device.specs.Receiving.{Ended, phase_start}
use Rattle.device.specs.Calls.{reply_room}
use Rattle.device.proofs.LineCases.{ended_erra, keeping_none, keeping_line_lem, taken_by}
use Rattle.device.proofs.Outsiders.{IsUnmatched, failed_ignores_line}
use Rattle.device.proofs.ReceivingAsMachine.{State, state_of, leaves, as_call, collects, ends, takes_in-state_of}
use Rattle.device.proofs.SameCuts.{device_at, receives, received_as_run}

-- an outsider's first line, as far as it came
abbrev pub first_line : Connection → List ℕ → Gathered
first_line c bs = gathered_from (held_most c.phase) c.line bs

abbrev pub refusal_of : Gathered → List ℕ
refusal_of g = if g.ended then erra_line else []

-- what an outsider's bytes leave
abbrev outsider_leaves : Own → Connection → Gathered → Out State
outsider_leaves o c g = record {
  state = state_of o (if g.ended then phase_start c phase_failed else with_line c g.line);
  reply = refusal_of g;
}

module _ (s : Settings) where
  abbrev ran : State → List ℕ → Out State
  ran = run_over (code "\r") State collects (ends s)

  abbrev stepped : State → ℕ → Bool → Out State
  stepped m b cr = if cr then ends s m else without_reply (collects m b)

  -- a failed connection ignores whatever comes
  failed_step : (m : State) (b : ℕ) (cr : Bool) → m.connection.phase ≡ phase_failed → stepped m b cr ≡ without_reply m
  failed_step m b cr h = grind (arith, failed_ignores_line, keeping_none)

  pub failed_run : (m : State) (bs : List ℕ) → m.connection.phase ≡ phase_failed → ran m bs ≡ without_reply m
  failed_run m [] f = run_none (code "\r") State collects (ends s) m
  failed_run m (b ∷ bs) f = grind (arith, run_more, failed_step, failed_run m bs f)

  -- his first call, and what is left then: the line ends and is refused, or nothing is left
  outsider_run : (o : Own) (c : Connection) (bs : List ℕ) → c.phase ≡ phase_awaiting → IsUnmatched s c bs
      → ran (state_of o c) bs ≡ outsider_leaves o c (first_line c bs)
  outsider_run o c bs waits unmatched =
      let g = first_line c bs in
      let leaves_then : Bool → Out State = λ t. record {
        state = state_of o (if t then phase_start c phase_failed else with_line c g.line);
        reply = if t then erra_line else [];
      } in
      run_called (code "\r") State collects (ends s) (state_of o c) bs
      ∙ ap (λ (t : Took State). reply_then t.reply (ran t.state (drop t.taken bs)))
      (sym (takes_in-state_of s o c bs (omega arith) (λ e. omega arith)))
      ∙ taken_by s o c bs
      (λ t. reply_then (as_call t).reply (ran (as_call t).state (drop t.taken bs)) ≡ outsider_leaves o c g)
      (λ e. ap (λ (r : Ended). reply_then r.reply (ran (leaves r).state (drop (g.before + 1) bs)))
      (ended_erra s o c g.line waits (unmatched e))
      ∙ ap (reply_then erra_line) (failed_run (state_of o (phase_start c phase_failed)) (drop (g.before + 1) bs) refl)
      ∙ ap leaves_then (sym e))
      (λ e. (λ i. ran (state_of o (keeping_line_lem c g.line (λ f. omega arith) i))
      (drop_of_length-le bs {i = g.before} (omega (arith, gathered_whole (held_most c.phase) c.line bs e)) i))
      ∙ run_none (code "\r") State collects (ends s) (state_of o (with_line c g.line))
      ∙ ap leaves_then (sym e))

-- the calls, however the stream is cut
module _ (room : ℕ) (enough : reply_room ≤ room) (p : ℕ) (there : p < places_count) (d : Device)
    (legal : is_legal d ≡ true) (waits : (connection_at d p).phase ≡ phase_awaiting) (ps : List (List ℕ))
    (unmatched : IsUnmatched d.settings (connection_at d p) (stream_of ps)) where
  abbrev all : Out Device
  all = handed_parts (receives room p) d ps

  abbrev first : Gathered
  first = first_line (connection_at d p) (stream_of ps)

  abbrev after : Connection
  after = (outsider_leaves d.own (connection_at d p) first).state.connection

  as_run : all ≡ out_through (device_at d p) (outsider_leaves d.own (connection_at d p) first)
  as_run = grind (arith, received_as_run, outsider_run)

  pub outsider_stream_keeps_own : (handed_parts (receives room p) d ps).state.own ≡ d.own
  outsider_stream_keeps_own = ap (λ (o : Out Device). o.state.own) as_run

  pub outsider_stream_refused : (handed_parts (receives room p) d ps).reply
      ≡ refusal_of (first_line (connection_at d p) (stream_of ps))
  outsider_stream_refused = ap (λ (o : Out Device). o.reply) as_run

  pub outsider_stream_keeps_settings : (handed_parts (receives room p) d ps).state.settings ≡ d.settings
  outsider_stream_keeps_settings = ap (λ (o : Out Device). o.state.settings) as_run

  -- every other place is as it was
  pub connection_at-handed_parts : (q : ℕ) → (q ≡ p → ⊥)
      → connection_at (handed_parts (receives room p) d ps).state q ≡ connection_at d q
  connection_at-handed_parts q other = simp (as_run, placed_elsewhere)

  here : connection_at all.state p ≡ after
  here = simp (as_run, placed_here, legal_places)

  -- once his first line ended, the connection has failed
  module _ (cr : (first_line (connection_at d p) (stream_of ps)).ended ≡ true) where
    failed_then : after ≡ phase_start (connection_at d p) phase_failed
    failed_then = if_yes _ _ cr

    pub outsider_stream_fails : (connection_at (handed_parts (receives room p) d ps).state p).phase ≡ phase_failed
    outsider_stream_fails = ap (λ (c : Connection). c.phase) (here ∙ failed_then)

    pub outsider_stream_age : (connection_at (handed_parts (receives room p) d ps).state p).age ≡ 0
    outsider_stream_age = ap (λ (c : Connection). c.age) (here ∙ failed_then)
