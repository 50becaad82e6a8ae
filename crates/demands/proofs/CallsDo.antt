-- What a call does to our record: refused, it leaves it as it was; served, it makes of it what its rule says (RULES,
-- Places, Time, and The numbers a call gives). From the two cases follows what holds of every call.
--   lent_to c            the memory that the call c is lent
--   unserved n c         what it gives where it is refused with the number n
--   IsServed d c         what is known where it is served, lent the record d
--   gives d c            what it then gives beside the record
--   own_then, connection_left, served    the own part that it then leaves, the connection at a place, the record
-- Assumes nothing.
use Rattle.std.proofs.Common.{ℕ, ◌<◌, ◌≡◌, refl, sym, ap, subst, ◌∙◌, true, false, List, [], arith, length, map, set}
use Rattle.std.proofs.Common.{◌==◌, eqb-true, if◌then◌else◌}
use Rattle.std.proofs.lemmas.Bool.{eqb-false}
use Rattle.text.specs.Outcomes.{number_answered}
use Rattle.text.specs.Flags.{flag_of}
use Rattle.text.specs.Words.{over}
use Rattle.text.specs.Rows.{first_of}
use Rattle.text.proofs.Choices.{if_by}
use Rattle.record.specs.Refusals.{refusal_number}
use Rattle.record.specs.Limits.{places_count}
use Rattle.record.specs.Legal.{is_legal}
use Rattle.record.specs.Record.{closed}
use Rattle.record.specs.Updates.{with_fault, with_errors, with_marks}
use Rattle.record.specs.Places.{connection_at, with_place, is_closed, lowest_closed}
use Rattle.record.specs.declared.types.Own.{Own}
use Rattle.record.specs.declared.types.Connection.{Connection}
use Rattle.record.specs.declared.types.Device.{Device}
use Rattle.record.proofs.Calls.{fault_set_by, errors_set_by, mark_set_by}
use Rattle.record.proofs.LegalTold.{legal_places}
use Rattle.record.proofs.ConnectionsTold.{placed_here, placed_elsewhere}
use Rattle.clock.specs.Second.{times, own_second, connection_second}
use Rattle.clock.proofs.Cases.{passed_by}
use Rattle.clock.proofs.InOneGo.{parts_pass, place_passes}
use Rattle.device.specs.Calls.{greeting, new_connection}
use Rattle.device.proofs.Cases.{takes, received_by, opened_by_lem, closed_by_lem}
use Rattle.ours.specs.Board.{ours, given_in, received_in, opened_in}
use Rattle.demands.specs.Calls.{Call, opens, closes, receives, passes, faults, reports, enables, after, number_of, Gave}
use Rattle.demands.specs.Calls.{gave_lent, gave_number, gave_by}
use Rattle.demands.specs.KeepsRunning.{rows_of}
use Rattle.demands.proofs.KeepsRunning.{number_is_first}

abbrev pub lent_to : Call → List ℕ
lent_to (opens random m) = m
lent_to (receives p bs m) = m
lent_to c = []

abbrev pub unserved : ℕ → Call → Gave
unserved n c = record { number = n; taken = 0; place = 0; length = 0; memory = lent_to c }

-- ---- served

abbrev IsThere : Device → Call → Type 0
IsThere d (opens random m) = lowest_closed d.connections < places_count
IsThere d (closes p) = (p < places_count) × (is_closed (connection_at d p) ≡ false)
IsThere d (receives p bs m) = (p < places_count) × (is_closed (connection_at d p) ≡ false)
IsThere d (enables lamp mark) = lamp < d.settings.lamp_count
IsThere d c = Unit {0}

pub record IsServed (d : Device) (c : Call) : Type 0 where
  pub legal : is_legal d ≡ true
  pub there : IsThere d c

abbrev replied : Device → Call → List ℕ
replied d (opens random m) = greeting d.settings random
replied d (receives p bs m) = (takes d p bs).ended.reply
replied d c = []

abbrev count_taken : Device → Call → ℕ
count_taken d (receives p bs m) = (takes d p bs).taken
count_taken d c = 0

abbrev place_told : Device → Call → ℕ
place_told d (opens random m) = lowest_closed d.connections
place_told d c = 0

abbrev pub gives : Device → Call → Gave
gives d c = record {
  number = 0;
  taken = count_taken d c;
  place = place_told d c;
  length = length (replied d c);
  memory = over (replied d c) (lent_to c);
}

abbrev pub own_then : Device → Call → Own
own_then d (receives p bs m) = (takes d p bs).ended.own
own_then d (passes n) = times (own_second d.settings) n d.own
own_then d (faults fault) = with_fault d.own (flag_of fault)
own_then d (reports errors) = with_errors d.own errors
own_then d (enables lamp mark) = with_marks d.own (set d.own.enabled lamp (flag_of mark))
own_then d c = d.own

abbrev connections_then : Device → Call → List Connection
connections_then d (opens random m) = set d.connections (lowest_closed d.connections) (new_connection d.settings random)
connections_then d (closes p) = set d.connections p closed
connections_then d (receives p bs m) = set d.connections p (takes d p bs).ended.connection
connections_then d (passes n) = map (times connection_second n) d.connections
connections_then d c = d.connections

abbrev pub served : Device → Call → Device
served d c = record { settings = d.settings; own = own_then d c; connections = connections_then d c }

-- ---- any call

pub call_by : (d : Device) (c : Call) (P : Gave → Device → Type 0) → ((n : ℕ) → (n ≡ 0 → ⊥) → P (unserved n c) d)
    → (IsServed d c → P (gives d c) (served d c)) → P (gave_by ours d c) (after ours d c)
call_by d (opens random m) P refused serves =
    opened_by_lem d random (length m) (λ c. P (gave_lent (number_answered c) (opened_in c m)) c.leaves)
    (λ e. refused (refusal_number e))
    (λ legal enough free. serves (record { legal = legal; there = free }))
call_by d (closes p) P refused serves =
    closed_by_lem d p (λ c. P (gave_number (given_in refusal_number c)) c.leaves) (λ e. refused (refusal_number e))
    (λ legal there live. serves (record { legal = legal; there = (there, live) }))
call_by d (receives p bs m) P refused serves =
    received_by d p bs (length m) (λ c. P (gave_lent 0 (received_in c m)) c.leaves) (λ e. refused (refusal_number e))
    (λ legal enough there live. serves (record { legal = legal; there = (there, live) }))
call_by d (passes n) P refused serves =
    passed_by (λ c. P (gave_number (given_in refusal_number c)) c.leaves) d n (λ illegal. refused 1 (λ z. omega arith))
    (λ legal. subst (P (gives d (passes n))) (sym (parts_pass n d)) (serves (record { legal = legal; there = tt })))
call_by d (faults fault) P refused serves =
    fault_set_by d (λ c. P (gave_number (given_in refusal_number c)) c.leaves) fault (refused 1 (λ z. omega arith))
    (λ legal. serves (record { legal = legal; there = tt }))
call_by d (reports errors) P refused serves =
    errors_set_by d (λ c. P (gave_number (given_in refusal_number c)) c.leaves) errors
    (refused 1 (λ z. omega arith)) (refused 3 (λ z. omega arith))
    (λ legal right. serves (record { legal = legal; there = tt }))
call_by d (enables lamp mark) P refused serves =
    mark_set_by d (λ c. P (gave_number (given_in refusal_number c)) c.leaves) lamp mark
    (λ e. refused (refusal_number e))
    (λ legal there left idle. serves (record { legal = legal; there = there }))

-- two records from which the call finds the same rows: it is refused of both with one number, or served of both
pub calls_by : (d e : Device) (c : Call) (P : Gave → Device → Gave → Device → Type 0) → rows_of d c ≡ rows_of e c
    → ((n : ℕ) → P (unserved n c) d (unserved n c) e)
    → (IsServed d c → IsServed e c → P (gives d c) (served d c) (gives e c) (served e c))
    → P (gave_by ours d c) (after ours d c) (gave_by ours e c) (after ours e c)
calls_by d e c P rows refused serves =
    call_by d c (λ g x. g.number ≡ number_of ours e c → P g x (gave_by ours e c) (after ours e c))
    (λ n some. call_by e c (λ h y. n ≡ h.number → P (unserved n c) d h y)
    (λ k z same. subst (λ (k : ℕ). P (unserved n c) d (unserved k c) e) same (refused n))
    (λ there same. absurd (some same)))
    (λ here. call_by e c (λ h y. 0 ≡ h.number → P (gives d c) (served d c) h y) (λ k z same. absurd (z (sym same)))
    (λ there same. serves here there))
    (number_is_first d c ∙ ap first_of rows ∙ sym (number_is_first e c))

-- ---- the connection that stands at a place then

abbrev pub connection_left : Device → Call → ℕ → Connection
connection_left d (opens random m) q =
    if lowest_closed d.connections == q then new_connection d.settings random else connection_at d q
connection_left d (closes p) q = if p == q then closed else connection_at d q
connection_left d (receives p bs m) q = if p == q then (takes d p bs).ended.connection else connection_at d q
connection_left d (passes n) q = times connection_second n (connection_at d q)
connection_left d c q = connection_at d q

module _ (d : Device) (legal : is_legal d ≡ true) (q : ℕ) where
  placed : (o : Own) (p : ℕ) → p < places_count → (k : Connection)
      → connection_at (with_place d o p k) q ≡ (if p == q then k else connection_at d q)
  placed o p there k =
      if_by (λ x. connection_at (with_place d o p k) q ≡ x) (p == q)
      (λ same. ap (connection_at (with_place d o p k)) (sym (eqb-true p q same))
      ∙ placed_here d (legal_places d legal) p there o k)
      (λ other. placed_elsewhere d o p k q (λ z. eqb-false p q other (sym z)))

pub connection_at-served : (d : Device) (c : Call) (q : ℕ) → IsServed d c
    → connection_at (served d c) q ≡ connection_left d c q
connection_at-served d (opens random m) q h = placed d h.legal q d.own _ h.there _
connection_at-served d (closes p) q h = placed d h.legal q d.own p h.there.0 _
connection_at-served d (receives p bs m) q h = placed d h.legal q (takes d p bs).ended.own p h.there.0 _
connection_at-served d (passes n) q h =
    ap (λ (e : Device). connection_at e q) (sym (parts_pass n d)) ∙ place_passes n d q
connection_at-served d c q h = refl

-- no call changes the settings; and one that is served leaves what it makes
pub settings_stay : (d : Device) (c : Call) → (after ours d c).settings ≡ d.settings
settings_stay d c = call_by d c (λ g e. e.settings ≡ d.settings) (λ n z. refl) (λ h. refl)

-- where it leaves the own part if it is served, it leaves it
pub own_left : (d : Device) (c : Call) → own_then d c ≡ d.own → (after ours d c).own ≡ d.own
own_left d c same = call_by d c (λ g e. e.own ≡ d.own) (λ n z. refl) (λ h. same)

pub served_after : (d : Device) (c : Call) → number_of ours d c ≡ 0 → after ours d c ≡ served d c
served_after d c e =
    call_by d c (λ g x. g.number ≡ 0 → x ≡ served d c) (λ n some z. absurd (some z)) (λ h z. refl) e
