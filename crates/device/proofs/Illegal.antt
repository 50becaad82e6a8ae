-- A record that is not legal is the first row of each call's table: it is refused with `NotLegal` and comes back as it
-- was. So no call changes whether a record is legal.
-- Assumes nothing.
use Rattle.std.proofs.Common.{arith, ℕ, ◌≡◌, ap, true, false, not, List}
use Rattle.text.specs.Outcomes.{CallResult, refused_as}
use Rattle.text.proofs.Choices.{if_yes}
use Rattle.record.specs.Legal.{is_legal}
use Rattle.record.specs.declared.refusal.Refusal.{Refusal}
use Rattle.record.specs.declared.refusal.Refusal.TheVariants.{NotLegal}
use Rattle.record.specs.declared.types.Device.{Device}
use Rattle.device.specs.Calls.{received_at, opened_by, closed_by}
use Rattle.device.proofs.Legal.{receiving_legal, opening_legal, closing_legal}

module _ (d : Device) where
  pub received_illegal : (p : ℕ) (bs : List ℕ) (room : ℕ) → is_legal d ≡ false
      → received_at d p bs room ≡ refused_as d NotLegal
  unfolding received_at
  received_illegal p bs room h = if_yes _ _ (ap not h)

  pub opened_illegal : (r room : ℕ) → is_legal d ≡ false → opened_by d r room ≡ refused_as d NotLegal
  unfolding opened_by
  opened_illegal r room h = if_yes _ _ (ap not h)

  pub closed_illegal : (p : ℕ) → is_legal d ≡ false → closed_by d p ≡ refused_as d NotLegal
  unfolding closed_by
  closed_illegal p h = if_yes _ _ (ap not h)

  same_legality : {A : Type 0} (r : CallResult Refusal A Device) → (is_legal d ≡ true → is_legal r.leaves ≡ true)
      → (is_legal d ≡ false → r ≡ refused_as d NotLegal) → is_legal r.leaves ≡ is_legal d
  same_legality r stays same = grind arith

  pub received_legality : (p : ℕ) (bs : List ℕ) (room : ℕ) → is_legal (received_at d p bs room).leaves ≡ is_legal d
  received_legality p bs room = grind (arith, receiving_legal, received_illegal)

  pub opened_legality : (r room : ℕ) → is_legal (opened_by d r room).leaves ≡ is_legal d
  opened_legality r room = grind (arith, opening_legal, opened_illegal)

  pub closed_legality : (p : ℕ) → is_legal (closed_by d p).leaves ≡ is_legal d
  closed_legality p = same_legality (closed_by d p) (λ h. closing_legal d h p) (closed_illegal p)
