-- What an event leaves of the places (RULES, Floor log): the one that a log drives may change, and every other is as
-- much later as the event lets pass.
-- Assumes nothing.
use Rattle.std.proofs.Common.{arith, ℕ, ◌≡◌, refl, sym, ap, subst, ◌∙◌, Bool, List, [], ◌∷◌, map, slice_index_or, set}
use Rattle.std.proofs.lemmas.List.{set-get_or}
use Rattle.record.specs.Places.{no_connection, connection_at}
use Rattle.record.specs.Record.{blank}
use Rattle.record.specs.declared.types.Connection.{Connection}
use Rattle.record.specs.declared.types.Device.{Device}
use Rattle.clock.specs.Second.{times, connection_second, second}
use Rattle.clock.proofs.InOneGo.{parts_pass}
use Rattle.clock.proofs.TimeAdds.{no_seconds}
use Rattle.clock.proofs.Cases.{passed_by}
use Rattle.device.specs.Calls.{reply_room, new_connection}
use Rattle.device.proofs.Cases.{received_by, opened_by_lem, closed_by_lem}
use Rattle.floorlog.specs.Events.{LogEvent, opens, receives, passes, closes, no_such}
use Rattle.floorlog.specs.Doing.{log_place, event_result}
use Rattle.floorlog.specs.Told.{seconds_of, places_after, Drives}
use Rattle.floorlog.proofs.LogOpenings.{log_opened_by}
use Rattle.floorlog.proofs.OnePlace.{first_is_lowest_closed}

-- no second
none_later : (cs : List Connection) → map (times connection_second 0) cs ≡ cs
none_later cs =
    let d : Device = record { settings = blank.settings; own = blank.own; connections = cs } in
    ap (λ (e : Device). e.connections) (sym (parts_pass 0 d) ∙ no_seconds d)

same_places : (legal : Bool) (cs : List Connection) → places_after legal 0 cs ≡ cs
same_places legal cs = grind (arith, none_later)

-- what was put in its place stands there
put_there : (cs : List Connection) (c : Connection)
    → set cs log_place (slice_index_or (set cs log_place c) log_place no_connection) ≡ set cs log_place c
put_there [] c = refl
put_there (x ∷ cs) c = refl

module _ (d : Device) where
  abbrev before : List Connection
  before = d.connections

  -- but for the place that a log drives, the places are as they were
  abbrev Kept : Device → Type 0
  Kept after = set before log_place (connection_at after log_place) ≡ after.connections

  pub none_pass : (after : Device) → Kept after → Drives 0 d after
  none_pass after kept = grind (arith, same_places)

  pub itself_kept : Kept d
  itself_kept = set-get_or before log_place no_connection

  opening_kept : (r : ℕ) → Kept (event_result d (opens r)).leaves
  unfolding event_result
  opening_kept r =
      log_opened_by d r (λ q. Kept q.leaves) (λ n z. itself_kept)
      (λ legal free. opened_by_lem d r reply_room (λ q. Kept q.leaves) (λ n z. itself_kept)
      (λ h s c. let new = new_connection d.settings r in subst
      (λ (k : ℕ). set before log_place (slice_index_or (set before k new) log_place no_connection) ≡ set before k new)
      (sym (first_is_lowest_closed before free)) (put_there before new)))

  passing_drives : (n : ℕ) → Drives n d (event_result d (passes n)).leaves
  unfolding event_result
  passing_drives n =
      passed_by (λ r. Drives n d r.leaves) d n
      (λ illegal. ap (λ (t : Bool). set (places_after t n before) log_place (connection_at d log_place)) illegal
      ∙ itself_kept)
      (λ legal. let after = times second n d in
      ap (λ (t : Bool). set (places_after t n before) log_place (connection_at after log_place)) legal
      ∙ ap (λ (e : Device). set e.connections log_place (connection_at after log_place)) (sym (parts_pass n d))
      ∙ set-get_or after.connections log_place no_connection)

  pub did_drives : (e : LogEvent) → Drives (seconds_of e) d (event_result d e).leaves
  unfolding event_result
  did_drives (opens r) = none_pass (event_result d (opens r)).leaves (opening_kept r)
  did_drives (receives bs) =
      none_pass (event_result d (receives bs)).leaves
      (received_by d log_place bs reply_room (λ q. Kept q.leaves) (λ n z. itself_kept)
      (λ h s t c. put_there before _))
  did_drives (passes n) = passing_drives n
  did_drives closes =
      none_pass (event_result d closes).leaves
      (closed_by_lem d log_place (λ q. Kept q.leaves) (λ n z. itself_kept) (λ h t c. put_there before _))
  did_drives no_such = none_pass d itself_kept

  pub driven : (e : LogEvent) {after : Device} → after ≡ (event_result d e).leaves → Drives (seconds_of e) d after
  driven e left = subst (Drives (seconds_of e) d) (sym left) (did_drives e)
