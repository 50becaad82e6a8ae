-- A lamp's seconds after n, by its place: where the lamps burn each enabled one gains n, stopped at the limit (RULES,
-- Lamps); else it stays, and so does the room past the lamps.
-- Assumes nothing.
use Rattle.std.proofs.Common.{ℕ, ◌≤◌, ◌<◌, ◌≡◌, ap, ◌∙◌, Bool, true, false, ◌&&◌, List, arith, length, slice_index_or}
use Rattle.std.proofs.Common.{get_or-take, if◌then◌else◌}
use Rattle.record.specs.Limits.{lamp_limit, is_lit}
use Rattle.record.specs.Legal.{is_legal}
use Rattle.record.specs.declared.types.Settings.{Settings}
use Rattle.record.specs.declared.types.Own.{Own}
use Rattle.record.specs.declared.types.Device.{Device}
use Rattle.record.proofs.OwnTold.{lamp_at}
use Rattle.record.specs.Facts.{IsOwn}
use Rattle.record.specs.Views.{power_seen, is_burning, marks_seen}
use Rattle.record.proofs.PowerSeen.{is_burning-power_of}
use Rattle.record.proofs.LegalTold.{own_of_legal}
use Rattle.clock.specs.Second.{times, changed_where, one_more, marks_in, own_second, second}
use Rattle.clock.specs.After.{lamp_after}
use Rattle.clock.proofs.ChangedWhere.{where_at}
use Rattle.clock.proofs.LampsGain.{burns}
use Rattle.clock.proofs.InOneGo.{own_in_one_go, parts_pass}

module _ (ms : List Bool) (n : ℕ) (l : List ℕ) (k : ℕ) where
  abbrev after : Bool → List ℕ
  after lit = if lit then changed_where (times one_more n) ms l else l

  used : (lit : Bool) → k < length l → slice_index_or l k 0 ≤ lamp_limit
      → slice_index_or (after lit) k 0 ≡ lamp_after n (lit && slice_index_or ms k false) (slice_index_or l k 0)
  used lit h g = grind (arith, where_at, burns)

module _ (s : Settings) (o : Own) (n : ℕ) where
  pub own_lamp_after : IsOwn s o → (k : ℕ) → k < s.lamp_count
      → slice_index_or (times (own_second s) n o).lamps k 0
      ≡ lamp_after n (is_lit o.power && slice_index_or (marks_seen o) k false) (slice_index_or o.lamps k 0)
  own_lamp_after t k h =
      let inside : k < length o.lamps = omega (arith, t.lamps.long, t.lamps.inside) in
      ap (λ (x : Own). slice_index_or x.lamps k 0) (own_in_one_go s o t.power n)
      ∙ used (marks_in s o) n o.lamps k (is_burning (power_seen o)) inside (lamp_at s o t k h)
      ∙ ap (λ (lit : Bool). lamp_after n (lit && slice_index_or (marks_in s o) k false) (slice_index_or o.lamps k 0))
      (is_burning-power_of o.power o.left)
      ∙ ap (λ (m : Bool). lamp_after n (is_lit o.power && m) (slice_index_or o.lamps k 0))
      (get_or-take s.lamp_count (marks_seen o) k false h)

module _ (n : ℕ) (d : Device) (k : ℕ) where
  pub lamp_after_seconds : is_legal d ≡ true → k < d.settings.lamp_count
      → slice_index_or (times second n d).own.lamps k 0
      ≡ lamp_after n (is_lit d.own.power && slice_index_or (marks_seen d.own) k false) (slice_index_or d.own.lamps k 0)
  lamp_after_seconds h l = grind (arith, parts_pass, own_lamp_after, own_of_legal)
