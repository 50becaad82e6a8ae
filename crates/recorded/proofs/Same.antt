-- What is recorded of a call that is served, played, does what the call did; a call that is refused leaves the record.
-- Assumes nothing.
use Rattle.std.proofs.Common.{ℕ, ◌≡◌, true, false, List, arith, length, take, refl, sym, ap, ◌∙◌}
use Rattle.std.proofs.Common.{◌==◌, eqb-true, eq-eqb}
use Rattle.std.proofs.Math.Seq.{take-append_seam}
use Rattle.text.specs.Outcomes.{CallResult, call_number, number_answered}
use Rattle.record.specs.declared.refusal.Refusal.{Refusal}
use Rattle.record.specs.Refusals.{refusal_number}
use Rattle.record.specs.declared.types.Device.{Device}
use Rattle.device.specs.Calls.{reply_room, received_at, opened_by}
use Rattle.device.proofs.Cases.{opened_by_lem, opened_greeted}
use Rattle.ours.specs.Board.{ours, received_in, reply}
use Rattle.demands.specs.Calls.{Call, opens, closes, receives, passes, faults, reports, enables, after}
use Rattle.demands.proofs.CallsDo.{call_by}
use Rattle.recorded.specs.Recorded.{is_served, recorded_call, replied_by}
use Rattle.recorded.specs.Playing.{reply_memory, played_call, is_at_its_place}
use Rattle.recorded.proofs.Taken.{received_alone}

-- what receiving and opening give
abbrev pub Came : Type 0
Came = CallResult Refusal ℕ Device

module _ (d : Device) where
  opened_same : (r room : ℕ) → call_number refusal_number (opened_by d r room) ≡ 0
      → opened_by d r reply_room ≡ opened_by d r room
  opened_same r room =
      opened_by_lem d r room (λ c. call_number refusal_number c ≡ 0 → opened_by d r reply_room ≡ c)
      (λ e some h. absurd (some h)) (λ legal enough free h. opened_greeted d r reply_room legal (omega arith) free)

  pub received_same : (p : ℕ) (bs : List ℕ) (room : ℕ) → call_number refusal_number (received_at d p bs room) ≡ 0
      → received_at d p (take (number_answered (received_at d p bs room)) bs) reply_room ≡ received_at d p bs room
  received_same p bs room h = received_alone d p bs room reply_room (omega arith) h

  -- the reply that is told is the reply
  pub reply_told : (r : Came) (m : List ℕ) → reply (received_in r m) ≡ r.bytes
  reply_told r m = take-append_seam r.bytes _

  pub record IsPlayedSame (c : Call) : Type 0 where
    pub served : is_served d (played_call (recorded_call d c)) ≡ true
    pub there : is_at_its_place d (recorded_call d c) ≡ true
    pub device : after ours d (played_call (recorded_call d c)) ≡ after ours d c
    pub replied : replied_by d (played_call (recorded_call d c)) ≡ replied_by d c

  pub played_same : (c : Call) → is_served d c ≡ true → IsPlayedSame c
  played_same (opens r m) h =
      let s = opened_same r (length m) (eqb-true _ 0 h) in
      record {
        served = ap (λ (q : Came). call_number refusal_number q == 0) s ∙ h;
        there = eq-eqb _ _ (ap (λ (q : Came). number_answered q) s);
        device = ap (λ (q : Came). q.leaves) s;
        replied = reply_told (opened_by d r reply_room) reply_memory ∙ ap (λ (q : Came). q.bytes) s
            ∙ sym (reply_told (opened_by d r (length m)) m);
      }
  played_same (receives p bs m) h =
      let taken = take (number_answered (received_at d p bs (length m))) bs in
      let s = received_same p bs (length m) (eqb-true _ 0 h) in
      record {
        served = ap (λ (q : Came). call_number refusal_number q == 0) s ∙ h;
        there = refl;
        device = ap (λ (q : Came). q.leaves) s;
        replied = reply_told (received_at d p taken reply_room) reply_memory ∙ ap (λ (q : Came). q.bytes) s
            ∙ sym (reply_told (received_at d p bs (length m)) m);
      }
  played_same (closes p) h = record { served = h; there = refl; device = refl; replied = refl }
  played_same (passes n) h = record { served = h; there = refl; device = refl; replied = refl }
  played_same (faults m) h = record { served = h; there = refl; device = refl; replied = refl }
  played_same (reports ds) h = record { served = h; there = refl; device = refl; replied = refl }
  played_same (enables k m) h = record { served = h; there = refl; device = refl; replied = refl }

  pub refused_leaves : (c : Call) → is_served d c ≡ false → after ours d c ≡ d
  refused_leaves c = call_by d c (λ g e. (g.number == 0) ≡ false → e ≡ d) (λ n some h. refl) (λ there h. cc)
