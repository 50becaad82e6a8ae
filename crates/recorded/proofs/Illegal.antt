-- On a record that is not legal each call is refused with 1, replies nothing and leaves the record.
-- Assumes nothing.
use Rattle.std.proofs.Common.{ℕ, ◌≡◌, false, not, [], arith, refl, ap, ◌∙◌, ◌==◌, take}
use Rattle.text.specs.Rows.{first_of}
use Rattle.text.proofs.Choices.{if_yes}
use Rattle.record.specs.Legal.{is_legal}
use Rattle.record.specs.declared.types.Device.{Device}
use Rattle.ours.specs.Board.{ours}
use Rattle.demands.specs.Calls.{Call, opens, closes, receives, passes, faults, reports, enables, after, number_of}
use Rattle.demands.specs.KeepsRunning.{rows_of}
use Rattle.demands.proofs.KeepsRunning.{number_is_first}
use Rattle.demands.proofs.CallsDo.{call_by}
use Rattle.history.specs.Calls.{LogCall}
use Rattle.recorded.specs.Recorded.{is_served, replied_by}
use Rattle.recorded.specs.Playing.{played_call}
use Rattle.recorded.specs.Played.{PlayTold, call_told}
use Rattle.recorded.proofs.Same.{refused_leaves}

module _ (d : Device) (illegal : is_legal d ≡ false) where
  first_row : (c : Call) → first_of (rows_of d c) ≡ 1
  first_row (opens random m) = if_yes _ _ (ap not illegal)
  first_row (closes p) = if_yes _ _ (ap not illegal)
  first_row (receives p bs m) = if_yes _ _ (ap not illegal)
  first_row (passes n) = if_yes _ _ (ap not illegal)
  first_row (faults fault) = if_yes _ _ (ap not illegal)
  first_row (reports errors) = if_yes _ _ (ap not illegal)
  first_row (enables lamp mark) = if_yes _ _ (ap not illegal)

  illegal_number : (c : Call) → number_of ours d c ≡ 1
  illegal_number c = number_is_first d c ∙ first_row c

  unserved : (c : Call) → is_served d c ≡ false
  unserved c = ap (λ (n : ℕ). n == 0) (illegal_number c)

  pub illegal_told : (c : LogCall)
      → ◌≡◌ {A = PlayTold} (record { number = 1; belonging = false; length = 0 }) (call_told d c)
  illegal_told c = grind (arith, illegal_number (played_call c))

  pub illegal_leaves : (c : Call) → after ours d c ≡ d
  illegal_leaves c = refused_leaves d c (unserved c)

  pub illegal_silent : (c : Call) → replied_by d c ≡ []
  illegal_silent c =
      call_by d c (λ g e. (g.number == 0) ≡ false → take g.length g.memory ≡ []) (λ n some h. refl) (λ there h. cc)
      (unserved c)
