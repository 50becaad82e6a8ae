-- What our board's receiving leaves, whole: the own part is what the bytes that it took make of it, since taking them
-- is a machine's run.
-- Assumes nothing.
use Rattle.std.proofs.Common.{ℕ, ◌<◌, ◌≡◌, sym, ap, ◌∙◌, Bool, true, false, List, [], ◌∷◌, length, take, ◌==◌}
use Rattle.std.proofs.Common.{if◌then◌else◌}
use Rattle.std.proofs.lemmas.Bool.{eqb-false}
use Prim.Native.Char.{code}
use Rattle.text.specs.Outcomes.{call_number}
use Rattle.record.specs.Refusals.{refusal_number}
use Rattle.record.specs.Limits.{places_count, phase_closed}
use Rattle.record.specs.Legal.{is_legal}
use Rattle.record.specs.Places.{connection_at, with_place, is_closed}
use Rattle.record.specs.declared.types.Settings.{Settings}
use Rattle.record.specs.declared.types.Device.{Device}
use Rattle.record.proofs.LegalTold.{legal_places, connection_of_legal}
use Rattle.record.proofs.ConnectionsTold.{placed_here}
use Rattle.stream.specs.Machine.{Out, Took, run_over}
use Rattle.stream.proofs.LinesSpelt.{run_none, run_more}
use Rattle.stream.proofs.SameHoweverCut.{call_runs}
use Rattle.device.proofs.Cases.{received_by, takes}
use Rattle.device.proofs.ReceivingAsMachine.{State, state_of, collects, ends, takes_in-state_of}
use Rattle.ours.specs.Board.{ours, received_in}
use Rattle.demands.specs.CallsDone.{own_by, ReceivedAs}

module _ (s : Settings) where
  abbrev ran : State → List ℕ → Out State
  ran m bs = run_over (code "\r") State collects (ends s) m bs

  own_by-ran : (bs : List ℕ) (m : State) → own_by s m.own m.connection bs ≡ (ran m bs).state.own
  unfolding own_by
  own_by-ran [] m = sym (ap (λ (o : Out State). o.state.own) (run_none (code "\r") State collects (ends s) m))
  own_by-ran (b ∷ bs) m =
      by (b == code "\r") (own_by-ran bs (ends s m).state) (own_by-ran bs (collects m b))
      ∙ sym (ap (λ (o : Out State). o.state.own) (run_more (code "\r") State collects (ends s) m b bs))
    where
      by : (t : Bool)
          → own_by s (ends s m).state.own (ends s m).state.connection bs ≡ (ran (ends s m).state bs).state.own
          → own_by s (collects m b).own (collects m b).connection bs ≡ (ran (collects m b) bs).state.own
          → (if t then own_by s (ends s m).state.own (ends s m).state.connection bs
          else own_by s (collects m b).own (collects m b).connection bs)
          ≡ (ran (if t then ends s m else record { state = collects m b; reply = [] }).state bs).state.own
      by true x y = x
      by false x y = y

taken_own : (d : Device) (p : ℕ) (bs : List ℕ) → is_legal d ≡ true → p < places_count
    → is_closed (connection_at d p) ≡ false
    → let t = takes d p bs in t.ended.own ≡ own_by d.settings d.own (connection_at d p) (take t.taken bs)
taken_own d p bs legal there live =
    let s = d.settings in
    let c = connection_at d p in
    let m = state_of d.own c in
    let known = (connection_of_legal d legal p there).phase in
    let call = takes_in-state_of s d.own c bs known (eqb-false c.phase phase_closed live) in
    ap (λ (k : Took State). k.state.own) call
    ∙ ap (λ (k : Took State). k.state.own) (call_runs (code "\r") State collects (ends s) m bs)
    ∙ ap (λ (k : Took State). (ran s m (take k.taken bs)).state.own) (sym call)
    ∙ sym (own_by-ran s (take (takes d p bs).taken bs) m)

pub received : (d : Device) (p : ℕ) (bs m : List ℕ) → (ours.receive d p bs m).number ≡ 0
    → ReceivedAs ours d p bs (ours.receive d p bs m)
received d p bs m =
    received_by d p bs (length m) (λ c. call_number refusal_number c ≡ 0 → ReceivedAs ours d p bs (received_in c m))
    (λ n some z. absurd (some z))
    (λ legal enough there live z.
    let t = takes d p bs in
    (λ i. with_place d (taken_own d p bs legal there live i) p
    (sym (placed_here d (legal_places d legal) p there t.ended.own t.ended.connection) i)))
