-- A connection is named by its place and the random number of its opening, its session: bytes that come late, of one
-- that was at the place before, differ from its own (RULES, The C face). And what passing time closed.
--   is_live c              the connection is not closed
--   is_session d p r       the connection at place p of the record d is live, and was opened with the number r
--   session_rows d p r room    when receiving in that session is refused, and for which error: as receiving is, but
--                              `Closed` where another session is there, or none
--   session_received d p r bs m    receiving in it: refused, or what receiving gives
--   session_closing_rows d p r, session_closed d p r    closing it alike
--   is_none_of r c, are_none_of r cs    neither the call c nor any of the calls cs opens with the number r
--   bit_where t n          n where t holds, else 0
--   is_closed_since d e p  of the records d and e, the place p is live in d and closed in e
--   places_closed d e      the places that are: bit p for place p
--   passing_of d g         the result of passing time on d that gave g
-- Assumes nothing.
use Rattle.std.specs.Prelude.{ℕ, ◌+◌, Bool, true, not, ◌&&◌, List, [], ◌∷◌, length, if◌then◌else◌, nat_lt, ◌==◌}
use Rattle.text.specs.Rows.{RefusalRow, ◌when◌, by_rows}
use Rattle.text.specs.Outcomes.{refused_as}
use Rattle.record.specs.Legal.{is_legal}
use Rattle.record.specs.Refusals.{refusal_number}
use Rattle.record.specs.declared.refusal.Refusal.{Refusal}
use Rattle.record.specs.declared.refusal.Refusal.TheVariants.{NotLegal, NoRoom, OutOfRange, Closed}
use Rattle.record.specs.Places.{connection_at, is_closed}
use Rattle.record.specs.declared.types.Connection.{Connection}
use Rattle.record.specs.declared.types.Device.{Device}
use Rattle.device.specs.Calls.{reply_room, is_no_place}
use Rattle.ours.specs.Board.{Given, Lent, received_in, ours}
use Rattle.demands.specs.Calls.{Call, opens}
use Rattle.board.specs.declared.sessions.Passing.{Passing}

abbrev pub is_live : Connection → Bool
is_live c = not (is_closed c)

abbrev pub is_session : Device → ℕ → ℕ → Bool
is_session d p r = is_live (connection_at d p) && (connection_at d p).random == r

abbrev pub session_rows : Device → ℕ → ℕ → ℕ → List (RefusalRow Refusal)
session_rows d p r room =
    (NotLegal when not (is_legal d)) ∷ (NoRoom when nat_lt room reply_room) ∷ (OutOfRange when is_no_place p)
    ∷ (Closed when not (is_session d p r)) ∷ []

abbrev pub session_received : Device → ℕ → ℕ → List ℕ → List ℕ → Lent Device
session_received d p r bs m =
    by_rows (session_rows d p r (length m)) (λ e. received_in (refused_as d e) m) (ours.receive d p bs m)

abbrev pub session_closing_rows : Device → ℕ → ℕ → List (RefusalRow Refusal)
session_closing_rows d p r =
    (NotLegal when not (is_legal d)) ∷ (OutOfRange when is_no_place p) ∷ (Closed when not (is_session d p r)) ∷ []

abbrev pub session_closed : Device → ℕ → ℕ → Given Device
session_closed d p r =
    by_rows (session_closing_rows d p r) (λ e. record { number = refusal_number e; device = d }) (ours.closing d p)

-- ---- over any calls

abbrev pub is_none_of : ℕ → Call → Bool
is_none_of r (opens random m) = not (random == r)
is_none_of r c = true

abbrev pub are_none_of : ℕ → List Call → Bool
are_none_of r [] = true
are_none_of r (c ∷ cs) = is_none_of r c && are_none_of r cs

-- ---- passing time

abbrev pub bit_where : Bool → ℕ → ℕ
bit_where t n = if t then n else 0

abbrev pub is_closed_since : Device → Device → ℕ → Bool
is_closed_since d e p = is_live (connection_at d p) && is_closed (connection_at e p)

abbrev pub places_closed : Device → Device → ℕ
places_closed d e =
    bit_where (is_closed_since d e 0) 1 + bit_where (is_closed_since d e 1) 2
    + bit_where (is_closed_since d e 2) 4 + bit_where (is_closed_since d e 3) 8

abbrev pub passing_of : Device → Given Device → Passing
passing_of d g = record { number = g.number; closed = places_closed d g.device }
