-- All that an accepted call leaves (RULES, The legal record, Connection and Time): set-up, opening, closing, receiving
-- and the host's calls. What a line is answered is in SpeaksPjlink, what a connection becomes in Interleaved, letting
-- time pass in CountsSeconds.
--   OpenedAs B d random p r   the reply is the greeting that the password and the random number give; p is the lowest
--                             closed place (RULES, Places), and the connection there keeps that number and awaits the
--                             digest exactly if there is a password; no byte was taken, and nothing else changed
--   own_by s o c bs           the own part o, after the connection c of a device with the settings s has taken the
--                             bytes bs: each CR does what the line that it ends asks for, and no other byte does
--                             anything
--   ReceivedAs B d p bs r     the own part is what the bytes taken make of it, the connection at place p is as the call
--                             left it, and nothing else changed
--   Leaves B r e              the call that gave r left the device e
-- Assumes nothing.
use Rattle.std.specs.Prelude.{ℕ, ◌≡◌, List, [], ◌∷◌, take, if◌then◌else◌}
use Rattle.text.specs.Words.{◌is◌}
use Rattle.record.specs.declared.types.Settings.{Settings}
use Rattle.record.specs.declared.types.Own.{Own}
use Rattle.record.specs.declared.types.Connection.{Connection}
use Rattle.record.specs.declared.types.Device.{Device}
use Rattle.record.specs.Legal.{held_most}
use Rattle.record.specs.Places.{connection_at, with_place, lowest_closed}
use Rattle.stream.specs.Collecting.{line_after}
use Rattle.device.specs.Receiving.{keeping_line, line_ended}
use Rattle.device.specs.Calls.{greeting, new_connection}
use Rattle.ours.specs.Board.{Board, Given, Lent, reply}

pub record OpenedAs {R : Type 0} (B : Board R) (d : R) (random place : ℕ) (r : Lent R) : Type 0 where
  pub taken : r.taken ≡ 0
  pub replied : reply r ≡ greeting (B.shows d).settings random
  pub lowest : place ≡ lowest_closed (B.shows d).connections
  pub device : B.shows r.device
      ≡ with_place (B.shows d) (B.shows d).own place (new_connection (B.shows d).settings random)

unfoldable pub own_by : Settings → Own → Connection → List ℕ → Own
own_by s o c [] = o
own_by s o c (b ∷ bs) =
    let e = line_ended s o c c.line in
    if b is "\r" then own_by s e.own e.connection bs
    else own_by s o (keeping_line c (line_after (held_most c.phase) c.line b)) bs

abbrev pub ReceivedAs : {R : Type 0} → Board R → R → ℕ → List ℕ → Lent R → Type 0
ReceivedAs B d p bs r =
    let before = B.shows d in
    let own = own_by before.settings before.own (connection_at before p) (take r.taken bs) in
    B.shows r.device ≡ with_place before own p (connection_at (B.shows r.device) p)

-- if it is accepted
abbrev pub Leaves : {R : Type 0} → Board R → Given R → Device → Type 0
Leaves B r e = r.number ≡ 0 → B.shows r.device ≡ e
