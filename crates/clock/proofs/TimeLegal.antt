-- A legal record stays legal as time passes: its settings stay, and a second keeps the own part and each connection
-- legal.
-- Assumes nothing.
use Rattle.std.proofs.Common.{ℕ, ◌+◌, ◌≤◌, ◌<◌, ◌≡◌, refl, sym, ◌∙◌, Bool, true, false, List, arith, length}
use Rattle.std.proofs.Common.{slice_index_or, length-take, ltb-true, if◌then◌else◌}
use Rattle.std.proofs.lemmas.List.{length-map}
use Rattle.std.proofs.Math.ListN.{get_or-eq_default}
use Rattle.text.proofs.Choices.{if_all}
use Rattle.record.specs.Limits.{lamps_most, lamp_limit, age_end}
use Rattle.record.specs.Rules.{is_lamps}
use Rattle.record.specs.Legal.{is_timed, is_legal}
use Rattle.record.specs.declared.types.Settings.{Settings}
use Rattle.record.specs.declared.types.Own.{Own}
use Rattle.record.specs.declared.types.Connection.{Connection}
use Rattle.record.specs.declared.types.Device.{Device}
use Rattle.record.proofs.Kept.{kept_zero}
use Rattle.record.proofs.OwnTold.{lamp_at, lamps_shown}
use Rattle.record.proofs.PowerSeen.{written}
use Rattle.record.specs.Views.{power_seen, is_burning, IsPowerOf}
use Rattle.clock.proofs.PowerTurns.{second_within}
use Rattle.record.proofs.ConnectionTold.{closed_legal, timed_age}
use Rattle.record.specs.Facts.{IsOwn, IsConnection, IsLegal, Fills}
use Rattle.record.specs.Updates.{with_age}
use Rattle.record.proofs.FactsTold.{connection_is, legal_is}
use Rattle.std.proofs.lemmas.List.Elements.{All-map}
use Rattle.clock.specs.Second.{times, changed_where, one_more, lamps_second}
use Rattle.clock.specs.Second.{marks_in, own_second, connection_second, second}
use Rattle.clock.specs.Passing.{time_passed}
use Rattle.clock.proofs.Repeated.{times_keeps}
use Rattle.clock.proofs.ChangedWhere.{length-changed_where, where_at, where_unmarked}
use Rattle.clock.proofs.Cases.{passed_by}

-- the lamps, by their places
one_within : (x : ℕ) → x ≤ lamp_limit → one_more x ≤ lamp_limit
unfolding one_more
one_within x h = grind arith

module _ (s : Settings) (o : Own) (t : IsOwn s o) where
  abbrev count : ℕ
  count = s.lamp_count

  abbrev marks : List Bool
  marks = marks_in s o

  -- past the lamps there is no mark
  none_past : (k : ℕ) → count ≤ k → slice_index_or marks k false ≡ false
  none_past k h = grind (arith, get_or-eq_default, length-take)

  burnt_kept : Fills lamps_most is_lamps (changed_where one_more marks o.lamps) count
  burnt_kept =
      lamps_shown _ count (length-changed_where one_more marks o.lamps ∙ t.lamps.long) t.lamps.inside
      (λ k h.
      let inside : k < length o.lamps = omega (arith, t.lamps.long, t.lamps.inside) in
      let x = slice_index_or o.lamps k 0 in
      let gained = where_at one_more marks o.lamps 0 k inside in
      let within : (if slice_index_or marks k false then one_more x else x) ≤ lamp_limit
      = if_all (λ (y : ℕ). y ≤ lamp_limit) (slice_index_or marks k false) (one_within x (lamp_at s o t k h))
      (lamp_at s o t k h) in
      omega (arith, gained, within))
      (λ k h.
      where_unmarked one_more marks o.lamps 0 k (none_past k h) ∙ kept_zero lamps_most is_lamps _ _ t.lamps k h)

  lamps_kept : Fills lamps_most is_lamps (lamps_second (power_seen o) marks o.lamps) count
  lamps_kept = if_all (λ (l : List ℕ). Fills lamps_most is_lamps l count) (is_burning (power_seen o)) burnt_kept t.lamps

  power_kept : IsPowerOf s.warm s.cool (own_second s o).power (own_second s o).left
  unfolding own_second
  power_kept = written s.warm s.cool _ (second_within _ _ (power_seen o) t.power.within)

  pub own_second_kept : IsOwn s (own_second s o)
  unfolding own_second
  own_second_kept = assumption (t, lamps_kept, power_kept)

-- the connection
older_kept : (c : Connection) → IsConnection c → is_timed c.phase ≡ true → c.age + 1 < age_end
    → IsConnection (with_age c (c.age + 1))
older_kept c t e l = assumption (t, timed_age c.phase (c.age + 1) e l)

pub connection_second_kept : (c : Connection) → IsConnection c → IsConnection (connection_second c)
unfolding connection_second
connection_second_kept c t = grind (arith, older_kept, ltb-true, connection_is, closed_legal)

-- the record
pub second_legal : (d : Device) → IsLegal d → IsLegal (second d)
unfolding second
second_legal d t = record {
  settings = t.settings;
  own = own_second_kept d.settings d.own t.own;
  places = length-map d.connections connection_second ∙ t.places;
  connections =
      All-map IsConnection connection_second d.connections
      (λ k p l. connection_second_kept _ (t.connections k p l));
}

pub time_legal : (n : ℕ) (d : Device) → is_legal d ≡ true → is_legal (times second n d) ≡ true
time_legal n d h = (legal_is _).1 (times_keeps IsLegal second second_legal n d ((legal_is d).0 h))

-- and the call keeps it legal, or not legal
pub passed_legality : (d : Device) (n : ℕ) → is_legal (time_passed d n).leaves ≡ is_legal d
passed_legality d n =
    passed_by (λ r. is_legal r.leaves ≡ is_legal d) d n (λ h. refl) (λ h. time_legal n d h ∙ sym h)

pub passed_legal : (d : Device) (n : ℕ) → is_legal d ≡ true → is_legal (time_passed d n).leaves ≡ true
passed_legal d n h = passed_legality d n ∙ h
