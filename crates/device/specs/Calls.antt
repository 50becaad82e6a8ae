-- The calls on the whole record, by tables of errors (RULES, The numbers a call gives and Connection), each at one of
-- four places (RULES, Places: opening takes the lowest closed one).
--   receiving_rows, opening_rows, closing_rows   when each call is refused, and for which error
--   received_at d p bs room  receiving the bytes bs at place p with so much reply memory: it answers how many bytes it
--                            takes, and writes the reply
--   opened_by d r room       opening with the random number r: it answers the place, and writes the greeting
--   closed_by d p            closing at place p
-- Assumes nothing.
use Rattle.std.specs.Prelude.{ℕ, Bool, not, List, [], ◌∷◌, if◌then◌else◌, nat_le, nat_lt, ◌==◌}
use Rattle.text.specs.Rows.{RefusalRow, ◌when◌, by_rows}
use Rattle.text.specs.Outcomes.{CallResult, served_as, refused_as}
use Rattle.digest.specs.Hex.{hex_digits}
use Rattle.pjlink.specs.Forms.{greeting_open, greeting_secured, reply_most}
use Rattle.record.specs.Limits.{places_count, phase_awaiting, phase_open}
use Rattle.record.specs.Legal.{is_legal}
use Rattle.record.specs.Record.{closed}
use Rattle.record.specs.Places.{connection_at, with_place, is_closed, lowest_closed}
use Rattle.record.specs.declared.refusal.Refusal.{Refusal}
use Rattle.record.specs.declared.refusal.Refusal.TheVariants.{NotLegal, NoRoom, OutOfRange, Closed, NoPlace}
use Rattle.record.specs.declared.types.Settings.{Settings}
use Rattle.record.specs.declared.types.Connection.{Connection}
use Rattle.record.specs.declared.types.Device.{Device}
use Rattle.device.specs.Receiving.{Taken, begun_in, taken_in}

-- the least reply memory: room for the longest reply that the standard allows
abbrev pub reply_room : ℕ
reply_room = reply_most

-- no reply is longer: an input's name, and eight around it (RULES, Class 2)
abbrev pub longest_reply : ℕ
longest_reply = 136

-- there is no such place
abbrev pub is_no_place : ℕ → Bool
is_no_place p = nat_le places_count p

abbrev pub receiving_rows : Device → ℕ → ℕ → List (RefusalRow Refusal)
receiving_rows d p room =
    (NotLegal when not (is_legal d)) ∷ (NoRoom when nat_lt room reply_room) ∷ (OutOfRange when is_no_place p)
    ∷ (Closed when is_closed (connection_at d p)) ∷ []

abbrev pub opening_rows : Device → ℕ → List (RefusalRow Refusal)
opening_rows d room =
    (NotLegal when not (is_legal d)) ∷ (NoRoom when nat_lt room reply_room)
    ∷ (NoPlace when is_no_place (lowest_closed d.connections)) ∷ []

abbrev pub closing_rows : Device → ℕ → List (RefusalRow Refusal)
closing_rows d p =
    (NotLegal when not (is_legal d)) ∷ (OutOfRange when is_no_place p)
    ∷ (Closed when is_closed (connection_at d p)) ∷ []

abbrev pub accepted_taken : Device → ℕ → Taken → CallResult Refusal ℕ Device
accepted_taken d p t = served_as t.taken t.ended.reply (with_place d t.ended.own p t.ended.connection)

unfoldable pub received_at : Device → ℕ → List ℕ → ℕ → CallResult Refusal ℕ Device
received_at d p bs room =
    by_rows (receiving_rows d p room) (refused_as d)
    (accepted_taken d p (taken_in d.settings d.own (connection_at d p) bs))

-- a password of length 0 means no security
abbrev pub has_password : Settings → Bool
has_password s = not (s.password.len == 0)

unfoldable pub greeting : Settings → ℕ → List ℕ
greeting s r = if has_password s then greeting_secured (hex_digits 8 r) else greeting_open

unfoldable pub new_connection : Settings → ℕ → Connection
new_connection s r = begun_in (if has_password s then phase_awaiting else phase_open) r

abbrev pub accepted_opening : Device → ℕ → CallResult Refusal ℕ Device
accepted_opening d r =
    let place = lowest_closed d.connections in
    served_as place (greeting d.settings r) (with_place d d.own place (new_connection d.settings r))

unfoldable pub opened_by : Device → ℕ → ℕ → CallResult Refusal ℕ Device
opened_by d r room = by_rows (opening_rows d room) (refused_as d) (accepted_opening d r)

unfoldable pub closed_by : Device → ℕ → CallResult Refusal (Unit {0}) Device
closed_by d p = by_rows (closing_rows d p) (refused_as d) (served_as tt [] (with_place d d.own p closed))
