-- Any line, from any controller, handed on whole to a legal projector between lines (RULES, Connection): on an open
-- connection it is answered, past 135 bytes swallowed; behind the matching digest it is answered on an awaiting one,
-- which is open afterwards.
--   line_result d p a n    the result at place p where the line is answered a and n bytes are taken
-- Assumes nothing.
use Rattle.std.specs.List.{list_all}
use Rattle.std.proofs.Common.{ℕ, ◌+◌, ◌≤◌, ◌<◌, ◌≡◌, ap, true, false, List, ◌∷◌, ◌++◌, arith, length, ◌==◌, codes}
use Prim.Native.Char.{code}
use Rattle.digest.specs.Hex.{leading_digest}
use Rattle.words.specs.Bytes.{is_not_cr, is_cr_free, command_most}
use Rattle.words.proofs.Characters.{no_cr_each}
use Rattle.text.specs.Flags.{is_raised}
use Rattle.text.specs.Outcomes.{CallResult}
use Rattle.record.specs.Limits.{places_count, phase_closed, phase_awaiting, phase_open}
use Rattle.record.specs.Legal.{held_most, is_legal}
use Rattle.record.specs.Places.{connection_at}
use Rattle.record.specs.declared.refusal.Refusal.{Refusal}
use Rattle.record.specs.declared.types.Settings.{Settings}
use Rattle.record.specs.declared.types.Own.{Own}
use Rattle.record.specs.declared.types.Connection.{Connection}
use Rattle.record.specs.declared.types.Device.{Device}
use Rattle.record.proofs.LegalTold.{legal_connection}
use Rattle.record.proofs.ConnectionTold.{held_most_opened}
use Rattle.stream.specs.Collecting.{empty_line, overlong_line, gathered_from}
use Rattle.stream.proofs.LinesSpelt.{overlong_marked}
use Rattle.stream.proofs.LinesCollected.{empty_is_none, overlong_gathered}
use Rattle.device.specs.Answering.{Answered, line_answer, line_swallowed}
use Rattle.device.specs.Receiving.{served_line, digest_long, set_up_password, taken_in}
use Rattle.device.specs.Calls.{reply_room, accepted_taken, received_at}
use Rattle.device.proofs.Cases.{received_taken}
use Rattle.device.proofs.LineCases.{ended_overlong, taken-line}
use Rattle.device.proofs.Legal.{line_legal}
use Rattle.stream.proofs.LegalLines.{between_lines}
use Rattle.device.proofs.WholeLines.{open_line-taken, matching_line-taken}

-- an overlong line on an open connection
module _ (s : Settings) (o : Own) (c : Connection) (empty : c.line ≡ empty_line) (phase : c.phase ≡ phase_open)
    (xs rest : List ℕ) (long : command_most < length xs) (plain : list_all is_not_cr xs ≡ true) where
  abbrev bytes : List ℕ
  bytes = xs ++ (code "\r" ∷ rest)

  gathered_from-held_most : gathered_from (held_most c.phase) c.line bytes
      ≡ record { line = overlong_line; before = length xs; ended = true }
  gathered_from-held_most = grind (arith, held_most_opened, empty, empty_is_none, overlong_gathered)

  pub overlong_line-taken : taken_in s o c bytes
      ≡ record { ended = served_line c (line_swallowed o); taken = length xs + 1 }
  overlong_line-taken = grind (arith, taken-line, gathered_from-held_most, ended_overlong, overlong_marked)

abbrev pub line_result : Device → ℕ → Answered → ℕ → CallResult Refusal ℕ Device
line_result d p a n = accepted_taken d p (record { ended = served_line (connection_at d p) a; taken = n })

module _ (d : Device) (p : ℕ) (there : p < places_count) (room : ℕ) (legal : is_legal d ≡ true)
    (enough : reply_room ≤ room) (unmarked : is_raised (connection_at d p).line.overlong ≡ false)
    (none : (connection_at d p).line.held ≡ 0) (l : List ℕ) (plain : is_cr_free l ≡ true) where
  abbrev c : Connection
  c = connection_at d p

  empty : c.line ≡ empty_line
  empty = between_lines c.phase c.line (line_legal c (legal_connection d legal p there)) unmarked none

  plainly : list_all is_not_cr l ≡ true
  plainly = no_cr_each l plain

  module _ (phase : c.phase ≡ phase_open) where
    open_takes : received_at d p (l ++ codes "\r") room
        ≡ accepted_taken d p (taken_in d.settings d.own c (l ++ codes "\r"))
    open_takes = received_taken d p (l ++ codes "\r") room legal enough there (ap (λ (q : ℕ). q == phase_closed) phase)

    pub line_received : length l ≤ command_most
        → received_at d p (l ++ codes "\r") room ≡ line_result d p (line_answer d.settings d.own l) (length l + 1)
    line_received short = grind (arith, open_takes, open_line-taken, empty, plainly)

    pub overlong_line_received : command_most < length l
        → received_at d p (l ++ codes "\r") room ≡ line_result d p (line_swallowed d.own) (length l + 1)
    overlong_line_received long = grind (arith, open_takes, overlong_line-taken, empty, plainly)

  abbrev digest : List ℕ
  digest = leading_digest c.random (set_up_password d.settings)

  pub led_line_received : c.phase ≡ phase_awaiting → length l ≤ command_most
      → received_at d p (digest ++ l ++ codes "\r") room
      ≡ line_result d p (line_answer d.settings d.own l) (digest_long + length l + 1)
  led_line_received phase short = grind (arith, received_taken, matching_line-taken, empty, plainly)
