-- n seconds in one go: the closed forms are n times one second, for the own part, each connection, and so the device.
-- Assumes nothing.
use Rattle.std.proofs.lemmas.Grind.{common_steps}
use Rattle.std.proofs.Common.{ℕ, zero, suc, ◌≤◌, arith, ◌≡◌, refl, sym, ap, ◌∙◌, Bool, List, [], ◌∷◌, map}
use mathlib.Core.List.{map-map}
use Rattle.std.specs.Prelude.{if◌then◌else◌}
use Rattle.record.specs.Views.{power_seen, with_power, IsPowerOf, is_burning}
use Rattle.record.specs.declared.views.Power.{Power}
use Rattle.record.proofs.PowerSeen.{seen_again}
use Rattle.record.specs.Updates.{with_seconds}
use Rattle.record.specs.declared.types.Settings.{Settings}
use Rattle.record.specs.declared.types.Own.{Own}
use Rattle.record.specs.Places.{connection_at}
use Rattle.record.specs.declared.types.Connection.{Connection}
use Rattle.record.specs.declared.types.Device.{Device}
use Rattle.clock.specs.Second.{times, changed_where, one_more, power_second, lamps_second, marks_in, own_second}
use Rattle.clock.specs.Second.{connection_second, second}
use Rattle.clock.specs.After.{power_after, lamps_after, own_after, parts_after}
use Rattle.clock.proofs.ChangedWhere.{where_same, changed_where-changed_where}
use Rattle.clock.proofs.ConnectionsAge.{untimed_stays}
use Rattle.clock.proofs.PowerTurns.{power_none, power_once, power_more, is_burning-power_after}

lamps_none : (p : Power) (ms : List Bool) (l : List ℕ) → lamps_after 0 p ms l ≡ l
unfolding times
lamps_none p ms l = grind (arith, where_same)

lamps_once : (p : Power) (ms : List Bool) (l : List ℕ) → lamps_second p ms l ≡ lamps_after 1 p ms l
unfolding times
lamps_once p ms l = refl

module _ (ms : List Bool) (l : List ℕ) (n : ℕ) where
  burnt_more : (lit : Bool)
      → (if lit then changed_where one_more ms (if lit then changed_where (times one_more n) ms l else l)
      else (if lit then changed_where (times one_more n) ms l else l))
      ≡ (if lit then changed_where (times one_more (suc n)) ms l else l)
  unfolding times
  burnt_more lit = grind (arith, changed_where-changed_where)

  lamps_more : (p : Power) → lamps_second (power_after n p) ms (lamps_after n p ms l) ≡ lamps_after (suc n) p ms l
  lamps_more p = rw (is_burning-power_after n p) (burnt_more (is_burning p))

-- a second and n more by the closed form, whatever the record has for its power
module _ (s : Settings) (o : Own) where
  one_more_lem : (n : ℕ) → times (own_second s) (suc n) o ≡ own_after s o (suc n)
  unfolding times own_second
  one_more_lem zero = grind (arith, power_once, lamps_once)
  one_more_lem (suc n) =
      let p = power_after (suc n) (power_seen o) in
      let burnt = lamps_after (suc n) (power_seen o) (marks_in s o) o.lamps in
      ap (own_second s) (one_more_lem n)
      ∙ (λ i.
      with_seconds (with_power o (power_second (seen_again p i)))
      (lamps_second (seen_again p i) (marks_in s o) burnt))
      ∙ (λ i.
      with_seconds (with_power o (power_more (suc n) (power_seen o) i))
      (lamps_more (marks_in s o) o.lamps (suc n) (power_seen o) i))

  pub own_passes : (n : ℕ) → 1 ≤ n → times (own_second s) n o ≡ own_after s o n
  own_passes zero h = absurd (omega arith)
  own_passes (suc n) h = one_more_lem n

-- no second by the closed form is none where the power is one that a record may have
pub own_in_one_go : (s : Settings) (o : Own) {w c : ℕ} → IsPowerOf w c o.power o.left → (n : ℕ)
    → times (own_second s) n o ≡ own_after s o n
unfolding times
own_in_one_go s o h n = grind (arith, power_none, lamps_none, one_more_lem)

-- the parts pass their seconds each for itself
pub parts_pass : (n : ℕ) (d : Device) → times second n d ≡ parts_after n d
unfolding times second
parts_pass zero d =
    (λ i. record { settings = d.settings; own = d.own; connections = sym (map-itself d.connections) i })
  where
    map-itself : (cs : List Connection) → map (times connection_second 0) cs ≡ cs
    map-itself [] = refl
    map-itself (c ∷ cs) = ap (λ (t : List Connection). c ∷ t) (map-itself cs)
parts_pass (suc n) d =
    ap second (parts_pass n d)
    ∙ (λ i. record {
      settings = d.settings;
      own = times (own_second d.settings) (suc n) d.own;
      connections = map-map connection_second (times connection_second n) d.connections i;
    })

-- so at each place the connection passes its own
pub place_passes : (n : ℕ) (d : Device) (p : ℕ)
    → connection_at (times second n d) p ≡ times connection_second n (connection_at d p)
place_passes n d p = grind (arith, common_steps, parts_pass, untimed_stays)
