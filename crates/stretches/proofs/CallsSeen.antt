-- What someone outside sees of a call.
--   Seen g n xs         what is seen of a call that lets n seconds pass: nothing; its seconds; a power set; a mark,
--                       in a
--                       stage that is off
-- Assumes nothing.
use Rattle.std.proofs.Common.{ℕ, ◌≡◌, refl, sym, ap, subst, ◌∙◌, Bool, true, false, List, [], ◌∷◌, arith, replicate}
use Rattle.std.proofs.Common.{◌==◌}
use Rattle.std.proofs.Common.{ne_eqb}
use Rattle.std.specs.Prelude.{if◌then◌else◌}
use Rattle.text.specs.Outcomes.{CallResult, call_number}
use Rattle.text.proofs.Choices.{if_yes, if_no, if_all}
use Rattle.record.specs.Refusals.{refusal_number}
use Rattle.record.specs.declared.refusal.Refusal.{Refusal}
use Rattle.record.specs.Limits.{off}
use Rattle.record.specs.Legal.{is_legal}
use Rattle.record.specs.Wanted.{Wanted}
use Rattle.record.specs.declared.types.Device.{Device}
use Rattle.record.proofs.Calls.{mark_set_by}
use Rattle.clock.proofs.Cases.{passed_accepted}
use Rattle.ours.specs.Board.{ours}
use Rattle.demands.specs.Calls.{Call, opens, closes, receives, passes, faults, reports, enables}
use Rattle.demands.specs.History.{HistoryEvent, switched, a_second, mark_switched, Streams, seen, Stage, steady}
use Rattle.demands.specs.History.{streams_after}
use Rattle.demands.proofs.Agrees.{power_of, Agrees}
use Rattle.demands.proofs.HistoryTold.{one_or_none}
use Rattle.watch.specs.CallSteps.{seconds_of_call}

pub data Seen (g : Stage) (n : ℕ) : List HistoryEvent → Type 0 where
  nothing : n ≡ 0 → Seen g n []
  time : Seen g n (replicate n a_second)
  power : (wanted : Bool) → n ≡ 0 → Seen g n (switched wanted ∷ [])
  mark : (lamp : ℕ) (to : Bool) → g ≡ steady false → n ≡ 0 → Seen g n (mark_switched lamp to ∷ [])

is_off : (g : Stage) → power_of g ≡ off → g ≡ steady false
is_off g h = grind arith

module _ (w : Wanted) (g : Stage) (ms : List Bool) (n : ℕ → ℕ) (stream : Streams) (d : Device)
    (a : Agrees w g ms n stream d) (legal : is_legal d ≡ true) where
  pub seen_of_call : (c : Call) → Seen g (seconds_of_call c) (seen ours d (streams_after ours d stream c) c)
  seen_of_call (opens r m) = nothing refl
  seen_of_call (closes p) = nothing refl
  seen_of_call (faults m) = nothing refl
  seen_of_call (reports ds) = nothing refl
  seen_of_call (receives p bs m) =
      if_all (Seen g 0) _ (one_or_none (Seen g 0) _ _ (nothing refl) (λ wanted. power wanted refl)) (nothing refl)
  seen_of_call (passes k) =
      subst (Seen g k) (sym (if_yes _ _
      (ap (λ (r : CallResult Refusal (Unit {0}) Device). call_number refusal_number r == 0)
      (passed_accepted d k legal)))) time
  seen_of_call (enables lamp to) =
      mark_set_by d
      (λ c. Seen g 0 (if call_number refusal_number c == 0 then mark_switched lamp to ∷ [] else [])) lamp to
      (λ e z. subst (Seen g 0) (sym (if_no _ _ (ne_eqb (refusal_number e) 0 z))) (nothing refl))
      (λ h there left idle. mark lamp to (is_off g (sym a.power ∙ idle)) refl)
