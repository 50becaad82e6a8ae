-- More reply memory than a call asks for changes nothing; closing has no reply.
-- Assumes nothing.
use Rattle.std.proofs.Common.{ℕ, ◌≤◌, ◌≡◌, refl, List, [], arith}
use Rattle.text.specs.Outcomes.{CallResult}
use Rattle.record.specs.declared.refusal.Refusal.{Refusal}
use Rattle.record.specs.declared.types.Device.{Device}
use Rattle.device.specs.Calls.{reply_room, received_at, opened_by, closed_by}
use Rattle.device.proofs.Cases.{closed_by_lem}

module _ (d : Device) (room : ℕ) (enough : reply_room ≤ room) where
  pub opened_room : (r : ℕ) → opened_by d r reply_room ≡ opened_by d r room
  unfolding opened_by
  opened_room r = grind arith

  pub received_room : (p : ℕ) (bs : List ℕ) → received_at d p bs reply_room ≡ received_at d p bs room
  unfolding received_at
  received_room p bs = grind arith

pub closing_quiet : (d : Device) (p : ℕ) → (closed_by d p).bytes ≡ []
closing_quiet d p =
    closed_by_lem d p (λ (x : CallResult Refusal (Unit {0}) Device). x.bytes ≡ []) (λ e some. refl) (λ h t c. refl)

pub ruleset enough_room = (opened_room, received_room)
