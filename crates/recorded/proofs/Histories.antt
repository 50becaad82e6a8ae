-- Someone outside sees the same history of what was recorded, played back, as of the calls.
-- Assumes nothing.
use Rattle.std.proofs.Common.{ℕ, ◌≡◌, Bool, true, false, List, [], ◌∷◌, ◌++◌, length, take, refl, sym, ap, ◌∙◌}
use Rattle.std.proofs.Common.{map, ◌==◌}
use Rattle.std.proofs.Common.{if◌then◌else◌, eqb-true, take-take, le_refl}
use Rattle.text.specs.Outcomes.{call_number, number_answered}
use Rattle.text.proofs.Choices.{if_no}
use Rattle.record.specs.Refusals.{refusal_number}
use Rattle.record.specs.declared.types.Device.{Device}
use Rattle.device.specs.Calls.{reply_room, received_at}
use Rattle.ours.specs.Board.{ours, reply, received_in}
use Rattle.demands.specs.Calls.{Call, opens, closes, receives, passes, faults, reports, enables, after}
use Rattle.demands.specs.History.{HistoryEvent, Streams, going_on_at, power_set, streams_after, seen, history}
use Rattle.recorded.specs.Recorded.{is_served, recorded_call, recorded}
use Rattle.recorded.specs.Playing.{reply_memory, played_call}
use Rattle.recorded.proofs.Same.{Came, played_same, refused_leaves, reply_told, received_same}

module _ (d : Device) (w : Streams) where
  streams_same : (c : Call) → is_served d c ≡ true
      → streams_after ours d w (played_call (recorded_call d c)) ≡ streams_after ours d w c
  streams_same (opens r m) h = refl
  streams_same (closes p) h = refl
  streams_same (receives p bs m) h =
      let t = number_answered (received_at d p bs (length m)) in
      ap
      (λ (q : Came). if call_number refusal_number q == 0 then going_on_at w p (take (number_answered q) (take t bs))
      else w)
      (received_same d p bs (length m) (eqb-true _ 0 h))
      ∙ ap
      (λ (l : List ℕ). if call_number refusal_number (received_at d p bs (length m)) == 0 then going_on_at w p l
      else w)
      (take-take t t bs (le_refl t))
  streams_same (passes n) h = refl
  streams_same (faults m) h = refl
  streams_same (reports ds) h = refl
  streams_same (enables k m) h = refl

  power_set_seen : (p : ℕ) (r : Came) (m : List ℕ) → let n = call_number refusal_number r in
      (if n == 0 then power_set (w p) (reply (received_in r m)) else [])
      ≡ (if n == 0 then power_set (w p) r.bytes else [])
  power_set_seen p r m =
      ap (λ (l : List ℕ). if call_number refusal_number r == 0 then power_set (w p) l else []) (reply_told d r m)

  seen_same : (c : Call) → is_served d c ≡ true
      → seen ours d w (played_call (recorded_call d c)) ≡ seen ours d w c
  seen_same (opens r m) h = refl
  seen_same (closes p) h = refl
  seen_same (receives p bs m) h =
      power_set_seen p (received_at d p (take (number_answered (received_at d p bs (length m))) bs) reply_room)
      reply_memory
      ∙ ap (λ (q : Came). if call_number refusal_number q == 0 then power_set (w p) q.bytes else [])
      (received_same d p bs (length m) (eqb-true _ 0 h))
      ∙ sym (power_set_seen p (received_at d p bs (length m)) m)
  seen_same (passes n) h = refl
  seen_same (faults m) h = refl
  seen_same (reports ds) h = refl
  seen_same (enables k m) h = refl

  -- a refused call tells nothing
  refused_streams : (c : Call) → is_served d c ≡ false → streams_after ours d w c ≡ w
  refused_streams (opens r m) h = refl
  refused_streams (closes p) h = refl
  refused_streams (receives p bs m) h = if_no _ _ h
  refused_streams (passes n) h = refl
  refused_streams (faults m) h = refl
  refused_streams (reports ds) h = refl
  refused_streams (enables k m) h = refl

  refused_seen : (c : Call) → is_served d c ≡ false → seen ours d w c ≡ []
  refused_seen (opens r m) h = refl
  refused_seen (closes p) h = refl
  refused_seen (receives p bs m) h = if_no _ _ h
  refused_seen (passes n) h = if_no _ _ h
  refused_seen (faults m) h = refl
  refused_seen (reports ds) h = refl
  refused_seen (enables k m) h = if_no _ _ h

abbrev calls_played : Device → List Call → List Call
calls_played d cs = map played_call (recorded d cs)

history_next : (d : Device) (w : Streams) (c : Call) (cs : List Call) (t : Bool) → is_served d c ≡ t
    → ((v : Streams) → history ours (after ours d c) v (calls_played (after ours d c) cs)
    ≡ history ours (after ours d c) v cs)
    → history ours d w
    (map played_call (if t then recorded_call d c ∷ recorded (after ours d c) cs else recorded (after ours d c) cs))
    ≡ seen ours d (streams_after ours d w c) c ++ history ours (after ours d c) (streams_after ours d w c) cs
history_next d w c cs true h rest =
    let s = played_same d c h in
    let e = played_call (recorded_call d c) in
    let v = streams_same d w c h in
    (λ i. seen ours d (v i) e ++ history ours (s.device i) (v i) (calls_played (after ours d c) cs))
    ∙ (λ i. seen_same d (streams_after ours d w c) c h i ++ rest (streams_after ours d w c) i)
history_next d w c cs false h rest =
    let same = refused_streams d w c h in
    ap (λ (k : Device). history ours k w (calls_played (after ours d c) cs)) (sym (refused_leaves d c h))
    ∙ rest w
    ∙ ap (λ (v : Streams). history ours (after ours d c) v cs) (sym same)
    ∙ ap (λ (l : List HistoryEvent). l ++ history ours (after ours d c) (streams_after ours d w c) cs)
    (sym (ap (λ (v : Streams). seen ours d v c) same ∙ refused_seen d w c h))

pub history_back : (d : Device) (w : Streams) (cs : List Call)
    → history ours d w (map played_call (recorded d cs)) ≡ history ours d w cs
history_back d w [] = refl
history_back d w (c ∷ cs) =
    history_next d w c cs (is_served d c) refl (λ v. history_back (after ours d c) v cs)
