-- The reply of what a line says, made again, is as long as is told, and fits in the memory for it.
-- Assumes nothing.
use Rattle.std.proofs.Common.{ℕ, ◌≤◌, ◌≡◌, refl, sym, ap, ◌∙◌, true, List, arith, length, take, Result, Ok}
use Rattle.std.proofs.Common.{length-take, [], subst}
use Rattle.text.proofs.Choices.{if_yes}
use Rattle.std.proofs.lemmas.List.{length-replicate}
use Rattle.std.proofs.Math.Seq.{take-append_seam}
use Rattle.text.specs.Words.{over}
use Rattle.record.specs.declared.types.Device.{Device}
use Rattle.device.specs.Calls.{reply_room}
use Rattle.ours.specs.Board.{ours, Lent}
use Rattle.demands.specs.Calls.{gave_by}
use Rattle.demands.specs.KeepsRunning.{Inside}
use Rattle.demands.proofs.KeepsRunning.{stays_inside}
use Rattle.history.specs.Calls.{LogCall, opens, closes, receives, passes, faults, reports, enables}
use Rattle.history.specs.Entries.{LogEntry, header, call, stated}
use Rattle.recorded.specs.Recorded.{replied_by}
use Rattle.recorded.specs.Played.{PlayTold, call_told}
use Rattle.recorded.specs.Playing.{reply_memory, played_call, belongs}
use Rattle.recorded.specs.Chain.{Misfit, call_made, made_told, reply_made}

pub record IsLong (s : List ℕ) (n : ℕ) : Type 0 where
  pub length_is : n ≡ length s
  pub inside : n ≤ reply_room

lent_long : (r : Lent Device) → Inside reply_memory r → IsLong (take r.length r.memory) r.length
lent_long r i =
    let room : length reply_memory ≡ reply_room = length-replicate {A = ℕ} reply_room 0 in
    record {
      length_is = omega (arith, length-take r.length r.memory, i.room, i.fits);
      inside = omega (arith, i.fits, room);
    }

replied_long : (d : Device) (c : LogCall)
    → IsLong (replied_by d (played_call c)) (gave_by ours d (played_call c)).length
replied_long d (opens p random) = lent_long _ (stays_inside d (played_call (opens p random)))
replied_long d (receives p bs) = lent_long _ (stays_inside d (played_call (receives p bs))).0
replied_long d (closes p) = record { length_is = refl; inside = omega arith }
replied_long d (passes n) = record { length_is = refl; inside = omega arith }
replied_long d (faults m) = record { length_is = refl; inside = omega arith }
replied_long d (reports ds) = record { length_is = refl; inside = omega arith }
replied_long d (enables k m) = record { length_is = refl; inside = omega arith }

none_long : (n : ℕ) → ◌≡◌ {A = Result ℕ Misfit} (Ok 0) (Ok n) → IsLong [] n
none_long n h = let e : 0 ≡ n = cc in record { length_is = sym e; inside = omega (arith, e) }

call_length : (t : PlayTold) (n : ℕ) → call_made t ≡ Ok n → (t.belonging ≡ true) × (n ≡ t.length)
call_length t n e = grind arith

pub made_long : (d : Device) (e : LogEntry) (n : ℕ) → made_told d e ≡ Ok n → IsLong (reply_made d e) n
made_long d (header f s t) n h = none_long n h
made_long d (stated k s shown) n h = none_long n h
made_long d (call c) n h =
    let (belongs, long) = call_length (call_told d c) n h in
    subst (IsLong (replied_by d (played_call c))) (sym (long ∙ if_yes _ _ belongs)) (replied_long d c)

pub made_fills : (d : Device) (e : LogEntry) (n : ℕ) (old new : List ℕ) → made_told d e ≡ Ok n
    → new ≡ over (reply_made d e) old → take n new ≡ reply_made d e
made_fills d e n old new h put =
    ap (take n) put
    ∙ ap (λ (k : ℕ). take k (over (reply_made d e) old)) (made_long d e n h).length_is
    ∙ take-append_seam (reply_made d e) _
